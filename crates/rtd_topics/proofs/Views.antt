-- What a known server holds stays, or changes.
use Rattle.std.proofs.Common.{◌≡◌, ℕ, Bool, true, false, cond, Option, None, Some, refl, ap, sym, ◌∙◌}
use Rattle.std.specs.Prelude.{is_some, unwrap_or}
use Rattle.std.specs.Option.{option_eq}
use Rattle.std.specs.Cmp.{IsEquivalence}
use Rattle.std.proofs.lemmas.Cmp.{lists_equiv, nat_list_eq_equiv}
use Rattle.cell_values.specs.declared.values.Value.{Value}
use Rattle.known_servers.specs.Server.{IsCurrent, SameView, ServerParts, ServerView, ViewPublishes}
use Rattle.rtd_server.specs.Server.{ServerState}
use Rattle.rtd_server.specs.Strings.{Strings, same_strings}
use Rattle.rtd_topics.specs.Parts.{KeepsServer}

-- what stays twice stays
pub keeps-trans : {S : Type 0} (state : S → ServerState) (a b c : ServerParts S) → KeepsServer state a b → KeepsServer state b c → KeepsServer state a c
keeps-trans state a b c h k = (
  (k.0.0 ∙ h.0.0, k.0.1 ∙ h.0.1),
  ((λ s. k.1.0.0 s ∙ h.1.0.0 s, λ s. k.1.0.1 s ∙ h.1.0.1 s), λ id. k.1.1 id ∙ h.1.1 id, λ id. k.1.2 id ∙ h.1.2 id),
)

-- what a topic needs of its server: its connections stay, and what is current and what was at the opening
pub record KeepsLink (old new : ServerView) : Type 0 where
  pub connected : (id : ℕ) → new.connected id ≡ old.connected id
  pub opening : (s : Strings) → new.opening s ≡ old.opening s
  pub current : (id : ℕ) (s : Strings) (v : Value) → old.connected id ≡ Some s → IsCurrent old id s v → IsCurrent new id s v
  pub pended : ((id : ℕ) → is_some (old.pending id) ≡ true → is_some (old.connected id) ≡ true) → (id : ℕ) → is_some (new.pending id) ≡ true → is_some (new.connected id) ≡ true

-- what is current stays so where what is published and taken does
pub current-kept : (old new : ServerView) (id : ℕ) (s : Strings) (v : Value) → new.published s ≡ old.published s → new.pending id ≡ old.pending id → IsCurrent old id s v → IsCurrent new id s v
current-kept old new id s v published pending current = ap (λ o. unwrap_or o v) published ∙ current ∙ ap (λ o. unwrap_or o v) (sym pending)

-- all stays
pub link-kept : (old new : ServerView) → SameView old new → KeepsLink old new
link-kept old new same = record {
  connected = same.1;
  opening = same.0.1;
  current = λ id s v linked current. current-kept old new id s v (same.0.0 s) (same.2 id) current;
  pended = λ h id some. ap is_some (same.1 id) ∙ h id (ap is_some (sym (same.2 id)) ∙ some);
}

-- the same strings are so as an equivalence is
same_strings_laws : IsEquivalence same_strings
same_strings_laws = lists_equiv nat_list_eq_equiv

-- what is current after a publish, by whether the strings are the topic's
publish_current : (b : Bool) (value v : Value) (p q : Option Value) → unwrap_or p v ≡ unwrap_or q v → unwrap_or (cond b (Some value) p) v ≡ unwrap_or (cond b (Some value) q) v
publish_current true value v p q h = refl
publish_current false value v p q h = h

-- what is taken only of connected ids, after a publish
publish_pended : (c : Option Strings) (strings : Strings) (value : Value) (p : Option Value) → (is_some p ≡ true → is_some c ≡ true) → is_some (cond (option_eq same_strings c (Some strings)) (Some value) p) ≡ true → is_some c ≡ true
publish_pended None strings value p h some = h some
publish_pended (Some s) strings value p h some = refl

-- a server publishes
pub link-published : (old new : ServerView) (strings : Strings) (value : Value) → ViewPublishes old new strings value → KeepsLink old new
link-published old new strings value publishes = record {
  connected = publishes.2;
  opening = publishes.1;
  current = λ id s v linked current.
      ap (λ o. unwrap_or o v) (publishes.0 s ∙ ap (λ b. cond b (Some value) (old.published s)) (same_strings_laws.symm strings s))
      ∙ publish_current (same_strings s strings) value v (old.published s) (old.pending id) current
      ∙ ap (λ o. unwrap_or o v) (sym (publishes.3 id ∙ ap (λ (c : Option Strings). cond (option_eq same_strings c (Some strings)) (Some value) (old.pending id)) linked));
  pended = λ h id some. ap is_some (publishes.2 id) ∙ publish_pended (old.connected id) strings value (old.pending id) (h id) (ap is_some (sym (publishes.3 id)) ∙ some);
}

-- all of a server stays where nothing is done
pub keeps-itself : {S : Type 0} (state : S → ServerState) (k : ServerParts S) → KeepsServer state k k
keeps-itself state k = ((refl, refl), ((λ s. refl, λ s. refl), λ id. refl, λ id. refl))
