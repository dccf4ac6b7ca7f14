-- Ids that are put in and taken out, and the ids noted for strings.
use Rattle.std.proofs.Common.{◌≡◌, ℕ, ◌+◌, ◌<◌, Bool, true, false, cond, ◌||◌, List, [], ◌∷◌, ◌++◌, Option, None, Some, length, take, refl, ap, sym, subst, ◌∙◌, rules}
use Rattle.std.specs.Prelude.{nat_eq, not, ◌&&◌, filter, IsSome}
use Rattle.std.specs.Cmp.{IsEquivalence}
use Rattle.std.specs.Map.{lookup, set_value}
use Rattle.std.proofs.lemmas.Cmp.{lists_equiv, nat_list_eq_equiv}
use Rattle.std.proofs.lemmas.Map.{lookup-set_value}
use Rattle.std.proofs.lemmas.Map.Views.{any-filter_same}
use Rattle.std.specs.List.{list_any, slice_index_or}
use Rattle.std.specs.Option.{option_eq, option_map_or}
use Rattle.std.proofs.lemmas.Bool.{eqb-true}
use Rattle.std.proofs.lemmas.List.Folds.{list_any_more, list_any-append}
use Rattle.rtd_server.specs.Links.{AreWatched, has_strings, watchers_at}
use Rattle.rtd_server.specs.Strings.{Strings, same_strings, same_strings_is}

nat_eq-symm : (a b : ℕ) → nat_eq a b ≡ nat_eq b a
nat_eq-symm a b = search (rules)

-- the same strings are so as an equivalence is
same_strings_laws : IsEquivalence same_strings
same_strings_laws = lists_equiv nat_list_eq_equiv

-- what is there
is_some-there : {X : Type 0} (v : X) (found : Option X) → Some v ≡ found → IsSome found
is_some-there v None e = cc
is_some-there v (Some x) e = search (rules)

-- a value written over that of strings which are there
pub written-at : {X : Type 0} (old new : List (Strings × X)) (strings : Strings) (v w : X) → new ≡ set_value (same_strings strings) old w → Some v ≡ lookup (same_strings strings) old
    → (q : Strings) → lookup (same_strings q) new ≡ cond (same_strings strings q) (Some w) (lookup (same_strings q) old)
written-at old new strings v w is there q =
    ap (lookup (same_strings q)) is
    ∙ lookup-set_value same_strings_laws (same_strings strings) (λ x y same. ap (λ s. same_strings s y) (same_strings_is strings x same)) q w old (is_some-there v (lookup (same_strings strings) old) there)

-- the ids of a look-up
abbrev ids_of : Option (List ℕ) → List ℕ
ids_of found = option_map_or (λ ids. ids) found []

-- the ids of strings that are there
pub watchers-there : (old : List (Strings × List ℕ)) (strings : Strings) (v : List ℕ) → Some v ≡ lookup (same_strings strings) old → v ≡ watchers_at old strings
watchers-there old strings v there = ap ids_of there

-- there are no ids of strings that aren't there
pub watchers-absent : (old : List (Strings × List ℕ)) (strings : Strings) → lookup (same_strings strings) old ≡ None → watchers_at old strings ≡ []
watchers-absent old strings absent = ap ids_of absent

-- the ids of strings are changed by f
pub watchers-changed : (f : List ℕ → List ℕ) (old new : List (Strings × List ℕ)) (strings : Strings) (w : List ℕ)
    → ((q : Strings) → lookup (same_strings q) new ≡ cond (same_strings strings q) (Some w) (lookup (same_strings q) old)) → w ≡ f (watchers_at old strings)
    → (s : Strings) → watchers_at new s ≡ cond (same_strings strings s) (f (watchers_at old s)) (watchers_at old s)
watchers-changed f old new strings w puts is s = elim (same_strings strings s) as (λ b. same_strings strings s ≡ b → watchers_at new s ≡ cond b (f (watchers_at old s)) (watchers_at old s)) [
  | true ↦ λ same. ap ids_of (puts s ∙ ap (λ b. cond b (Some w) (lookup (same_strings s) old)) same) ∙ is ∙ ap (λ t. f (watchers_at old t)) (same_strings_is strings s same)
  | false ↦ λ apart. ap ids_of (puts s ∙ ap (λ b. cond b (Some w) (lookup (same_strings s) old)) apart)
] refl

same_both : {X : Type 0} (b : Bool) (x : X) → cond b x x ≡ x
same_both true x = refl
same_both false x = refl

-- the ids of strings stay, written over themselves
pub watchers-kept : (old new : List (Strings × List ℕ)) (strings : Strings) (w : List ℕ)
    → ((q : Strings) → lookup (same_strings q) new ≡ cond (same_strings strings q) (Some w) (lookup (same_strings q) old)) → w ≡ watchers_at old strings
    → (s : Strings) → watchers_at new s ≡ watchers_at old s
watchers-kept old new strings w puts is s = watchers-changed (λ ids. ids) old new strings w puts is s ∙ same_both (same_strings strings s) (watchers_at old s)

not_and : (b c : Bool) → (not b && c) ≡ cond b false c
not_and true c = refl
not_and false c = refl

-- an id that is taken out is among the ids no more
pub taken_out : (id : ℕ) (ids : List ℕ) (q : ℕ) → list_any (nat_eq q) (filter (λ other. not (nat_eq other id)) ids) ≡ cond (nat_eq id q) false (list_any (nat_eq q) ids)
taken_out id ids q =
    any-filter_same (nat_eq q) (λ other. not (nat_eq other id)) (not (nat_eq id q)) (λ k same. ap (λ n. not (nat_eq n id)) (sym (eqb-true q k same)) ∙ ap not (nat_eq-symm q id)) ids
    ∙ not_and (nat_eq id q) (list_any (nat_eq q) ids)

chosen : (id : ℕ) (ids : List ℕ) (q : ℕ) (b : Bool) → list_any (nat_eq q) (cond b (filter (λ other. not (nat_eq other id)) ids) ids) ≡ cond b (cond (nat_eq id q) false (list_any (nat_eq q) ids)) (list_any (nat_eq q) ids)
chosen id ids q true = taken_out id ids q
chosen id ids q false = refl

-- an id is taken out of the ids of strings
pub unwatched : (old new : List (Strings × List ℕ)) (strings : Strings) (id : ℕ)
    → ((s : Strings) → watchers_at new s ≡ cond (same_strings strings s) (filter (λ other. not (nat_eq other id)) (watchers_at old s)) (watchers_at old s))
    → (s : Strings) (q : ℕ) → list_any (nat_eq q) (watchers_at new s) ≡ cond (same_strings strings s) (cond (nat_eq id q) false (list_any (nat_eq q) (watchers_at old s))) (list_any (nat_eq q) (watchers_at old s))
unwatched old new strings id changed s q = ap (list_any (nat_eq q)) (changed s) ∙ chosen id (watchers_at old s) q (same_strings strings s)

-- there is no id to take out of strings that aren't there
pub unwatched-absent : (old : List (Strings × List ℕ)) (strings : Strings) (id : ℕ) → lookup (same_strings strings) old ≡ None
    → (s : Strings) (q : ℕ) → list_any (nat_eq q) (watchers_at old s) ≡ cond (same_strings strings s) (cond (nat_eq id q) false (list_any (nat_eq q) (watchers_at old s))) (list_any (nat_eq q) (watchers_at old s))
unwatched-absent old strings id absent s q = elim (same_strings strings s) as (λ b. same_strings strings s ≡ b → list_any (nat_eq q) (watchers_at old s) ≡ cond b (cond (nat_eq id q) false (list_any (nat_eq q) (watchers_at old s))) (list_any (nat_eq q) (watchers_at old s))) [
  | true ↦ λ same. let none : list_any (nat_eq q) (watchers_at old s) ≡ false = subst (λ t. list_any (nat_eq q) (watchers_at old t) ≡ false) (same_strings_is strings s same) (ap (list_any (nat_eq q)) (watchers-absent old strings absent)) in
      none ∙ sym (same_both (nat_eq id q) false) ∙ ap (cond (nat_eq id q) false) (sym none)
  | false ↦ λ apart. refl
] refl
