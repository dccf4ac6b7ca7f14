-- The snapshot of a state in which no topic failed to connect, and that all beside what is changed is alike in a state
-- that keeps what commands keep.
use Rattle.std.proofs.Common.{◌≡◌, inl, inr, ℕ, Bool, true, false, ◌||◌, List, [], ◌∷◌, ◌++◌, map, Option, Some, None, unwrap_or, refl, ap, sym, ◌∙◌}
use Rattle.std.specs.List.{AllByRecursion}
use Rattle.std.specs.Map.{lookup}
use Rattle.std.specs.Option.{option_map_or, option_or}
use Rattle.std.specs.Str.{bytes_eq}
use Rattle.std.proofs.lemmas.List.Elements.{All-from_recursion}
use Rattle.std.proofs.lemmas.Slice.Eq.{bytes_eq-Decides}
use Rattle.cell_values.specs.declared.topics.Topic.{Topic}
use Rattle.cell_values.specs.Topic.{same_topic}
use Rattle.formula_parse.specs.Tree.{sites_named}
use Rattle.workbook.specs.Agreement.{IsAlikeBesideChanged}
use Rattle.workbook.specs.Book.{has_formula}
use Rattle.workbook.specs.Pulling.{is_named}
use Rattle.workbook.specs.Registry.{registration_of}
use Rattle.workbook.specs.State.{HostTerms, State, completed_setting, not_available, setting_of, snapshot_topics, topics_of_round, value_among}
use Rattle.workbook.specs.Step.{failed_topics, knows_server}
use Rattle.clean_cells.specs.Keeping.{AreOfKnown, IsAsCompleted, KeepsClean, opening_topics}
use Rattle.clean_cells.proofs.Fresh.{fresh_unchanged}
use Rattle.clean_cells.proofs.TopicLists.{lookup-append}

-- ---- the snapshot
or_nothing : {X : Type 0} (o : Option X) → o ≡ option_or o None
or_nothing None = refl
or_nothing (Some x) = refl

-- what is found of a topic
snapshot_found : (s : State) → failed_topics s ≡ [] → (t : Topic) → lookup (same_topic t) (snapshot_topics s) ≡ option_or (lookup (same_topic t) s.taken) (lookup (same_topic t) (opening_topics s))
snapshot_found s none t =
    elim s.running as (λ o. option_map_or (λ running. running.failed) o [] ≡ []
    → lookup (same_topic t) (option_map_or (topics_of_round s.taken) o s.taken) ≡ option_or (lookup (same_topic t) s.taken) (lookup (same_topic t) (option_map_or (λ running. running.opening) o []))) [
      | None ↦ λ _. or_nothing (lookup (same_topic t) s.taken)
      | Some r ↦ λ h.
          ap (λ topics. lookup (same_topic t) ((map (λ topic. (topic, not_available)) topics ++ s.taken) ++ r.opening)) h
          ∙ lookup-append s.taken r.opening t
    ] none

-- a topic of an unknown server is #N/A
pub value_of_unknown : (s : State) → failed_topics s ≡ [] → AreOfKnown s s.taken → AreOfKnown s (opening_topics s) → (t : Topic) → knows_server s t.server ≡ false
    → value_among (snapshot_topics s) t ≡ not_available
value_of_unknown s none taken opening t unknown =
    ap (λ o. unwrap_or o not_available)
    (snapshot_found s none t ∙ ap (λ o. option_or o (lookup (same_topic t) (opening_topics s))) (taken t unknown) ∙ opening t unknown)

-- what is as at the last completion has that value
value_as_completed : (terms : HostTerms) (s : State) → KeepsClean terms s → (t : Topic) → IsAsCompleted s t → value_among s.completed.topics t ≡ value_among (snapshot_topics s) t
value_as_completed terms s kept t (inl connected) =
    sym (ap (λ o. unwrap_or o not_available) (snapshot_found s kept.failed t ∙ ap (λ o. option_or o (lookup (same_topic t) (opening_topics s))) connected))
value_as_completed terms s kept t (inr unknown) = unknown.1 ∙ sym (value_of_unknown s kept.failed kept.taken kept.opening t unknown.0)

-- ---- a state that keeps what commands keep
each_named : (P : List ℕ → Type 0) (names : List (List ℕ)) → ((name : List ℕ) → is_named names name ≡ true → P name) → AllByRecursion P names
each_named P [] leads = tt
each_named P (n ∷ names) leads = (
  leads n (ap (λ b. b || is_named names n) ((bytes_eq-Decides n n).1 refl)),
  each_named P names (λ name h. leads name (right (bytes_eq name n) (is_named names name) h)),
)
  where
    right : (a b : Bool) → b ≡ true → (a || b) ≡ true
    right true b h = refl
    right false b h = h

-- in it all beside what is changed is alike
pub alike_kept : (terms : HostTerms) (s : State) → KeepsClean terms s
    → IsAlikeBesideChanged (completed_setting terms s) (setting_of terms s) s.completed.book.contents s.book.contents s.changed
alike_kept terms s kept = record {
  contents = kept.contents;
  answer = refl;
  formulas = λ cell tree content fresh.
      let unchanged = fresh_unchanged s.book.contents s.changed cell (ap has_formula content) fresh in record {
        registered = All-from_recursion (λ name. registration_of s.completed.book.functions name ≡ registration_of s.book.functions name) (sites_named tree)
            (each_named (λ name. registration_of s.completed.book.functions name ≡ registration_of s.book.functions name) (sites_named tree) (kept.registered cell tree unchanged content));
        accepted = λ site above below. kept.accepted cell tree content fresh site;
        topics = λ topic reads. value_as_completed terms s kept topic (kept.seen cell topic unchanged reads);
      };
}
