-- The first state keeps what commands keep, and so do the commands that change neither the book nor the rounds: a
-- publish, a flag, and what concerns the throttle and listeners alone.
use Rattle.std.proofs.Common.{◌≡◌, inl, inr, Bool, true, false, cond, List, Some, None, refl, ap, sym, ◌∙◌}
use Rattle.std.specs.List.Sorted.{IsStrictlySortedBy}
use Rattle.std.specs.Map.{lookup, remove_entry}
use Rattle.cell_values.specs.declared.topics.Topic.{Topic}
use Rattle.cell_values.specs.declared.values.Value.{Value}
use Rattle.cell_values.specs.Topic.{same_topic}
use Rattle.workbook.specs.Pulling.{is_named}
use Rattle.workbook.specs.State.{HostTerms, KnownServer, Listener, State, ThrottleState, first_state}
use Rattle.workbook.specs.Step.{knows_server, topics_with}
use Rattle.clean_cells.specs.Keeping.{IsAsCompleted, KeepsClean}
use Rattle.clean_cells.proofs.Books.{lookup-removed_elsewhere}
use Rattle.clean_cells.proofs.Servers.{names_of}
use Rattle.clean_cells.proofs.TopicLists.{none_distinct, same_topic_is}

-- the first state
pub first_kept : (terms : HostTerms) → KeepsClean terms first_state
unfolding IsStrictlySortedBy
first_kept terms = record {
  ordered = tt;
  completed_ordered = tt;
  once = none_distinct;
  published = λ t unknown. refl;
  taken = λ t unknown. refl;
  opening = λ t unknown. refl;
  failed = refl;
  contents = λ cell unchanged. refl;
  seen = λ cell topic unchanged reads. cc;
  registered = λ cell tree unchanged content name named. refl;
  accepted = λ cell tree content fresh site. refl;
}

module _ (terms : HostTerms) (s : State) (kept : KeepsClean terms s) where
  -- one of two states
  pub either_kept : (later : State) (b : Bool) → KeepsClean terms later → KeepsClean terms (cond b later s)
  either_kept later true after = after
  either_kept later false after = kept

  -- another throttle, or other listeners
  pub throttle_kept : (throttle : ThrottleState) → KeepsClean terms (record s { throttle = throttle })
  throttle_kept throttle = record {
    ordered = kept.ordered;
    completed_ordered = kept.completed_ordered;
    once = kept.once;
    published = kept.published;
    taken = kept.taken;
    opening = kept.opening;
    failed = kept.failed;
    contents = kept.contents;
    seen = kept.seen;
    registered = kept.registered;
    accepted = kept.accepted;
  }

  pub listeners_kept : (listeners : List Listener) → KeepsClean terms (record s { listeners = listeners })
  listeners_kept listeners = record {
    ordered = kept.ordered;
    completed_ordered = kept.completed_ordered;
    once = kept.once;
    published = kept.published;
    taken = kept.taken;
    opening = kept.opening;
    failed = kept.failed;
    contents = kept.contents;
    seen = kept.seen;
    registered = kept.registered;
    accepted = kept.accepted;
  }

  -- a known server publishes
  pub publish_kept : (u : Topic) (value : Value) → knows_server s u.server ≡ true → KeepsClean terms (record s { published = topics_with s.published u value })
  publish_kept u value known = record {
    ordered = kept.ordered;
    completed_ordered = kept.completed_ordered;
    once = kept.once;
    taken = kept.taken;
    opening = kept.opening;
    failed = kept.failed;
    contents = kept.contents;
    seen = kept.seen;
    registered = kept.registered;
    accepted = kept.accepted;
    published = λ t unknown. found t unknown (another t unknown (same_topic t u) refl);
  }
    where
      another : (t : Topic) → knows_server s t.server ≡ false → (b : Bool) → same_topic t u ≡ b → same_topic t u ≡ false
      another t unknown false is = is
      another t unknown true is =
          let one : t ≡ u = same_topic_is t u is in
          absurd (cc (ap (λ (k : Topic). knows_server s k.server) one, known, unknown))

      apart : (t k : Topic) → same_topic t u ≡ false → same_topic u k ≡ true → same_topic t k ≡ false
      apart t k other is = ap (same_topic t) (sym (same_topic_is u k is)) ∙ other

      found : (t : Topic) → knows_server s t.server ≡ false → same_topic t u ≡ false → lookup (same_topic t) (topics_with s.published u value) ≡ None
      found t unknown other =
          ap (λ b. cond b (Some value) (lookup (same_topic t) (remove_entry (same_topic u) s.published))) other
          ∙ lookup-removed_elsewhere (same_topic t) (same_topic u) (λ k is. apart t k other is) s.published
          ∙ kept.published t unknown

  -- servers keep their names
  pub servers_kept : (servers : List KnownServer) → names_of servers ≡ names_of s.servers → KeepsClean terms (record s { servers = servers })
  servers_kept servers same = record {
    ordered = kept.ordered;
    completed_ordered = kept.completed_ordered;
    once = kept.once;
    failed = kept.failed;
    contents = kept.contents;
    registered = kept.registered;
    accepted = kept.accepted;
    published = λ t unknown. kept.published t (before t unknown);
    taken = λ t unknown. kept.taken t (before t unknown);
    opening = λ t unknown. kept.opening t (before t unknown);
    seen = λ cell topic unchanged reads. still topic (kept.seen cell topic unchanged reads);
  }
    where
      before : (t : Topic) → is_named (names_of servers) t.server ≡ false → knows_server s t.server ≡ false
      before t unknown = ap (λ names. is_named names t.server) (sym same) ∙ unknown

      still : (t : Topic) → IsAsCompleted s t → IsAsCompleted (record s { servers = servers }) t
      still t (inl connected) = inl connected
      still t (inr unknown) = inr (ap (λ names. is_named names t.server) same ∙ unknown.0, unknown.1)
