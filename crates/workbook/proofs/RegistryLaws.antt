-- Laws of the registered functions, seen by the bytes of their names.
use Rattle.std.proofs.Common.{◌≡◌, ℕ, Bool, true, false, cond, List, [], ◌∷◌, Option, Some, None, Result, Ok, Err, OnOk, OnErr, refl, ap, sym, subst, ◌∙◌}
use Rattle.std.specs.List.{AllByRecursion}
use Rattle.std.specs.List.Sorted.{IsStrictlySortedBy}
use Rattle.std.specs.Map.{lookup, keys_of}
use Rattle.std.specs.Option.{option_map}
use Rattle.std.specs.Ordering.{is_eq, match_ordering}
use Rattle.std.specs.BTreeMap.{insert_entry}
use Rattle.std.specs.String.{string_bytes}
use Rattle.std.specs.declared.cmp.Ordering.{Ordering}
use Rattle.std.specs.declared.cmp.Ordering.TheVariants.{Less, Equal, Greater}
use Rattle.std.specs.declared.string.String.{String}
use Rattle.std.proofs.lemmas.Map.Lookups.{exact_bytes}
use Rattle.std.proofs.lemmas.Map.Text.{is_eq-slice_cmp}
use Rattle.addin_types.specs.declared.registrations.Registration.{Registration}
use Rattle.workbook.specs.Registry.{name_cmp, AreInOrder, is_past, next_name, registration_of}
use Rattle.workbook.specs.NamedEntries.{key_cmp, AreNamed, functions_of}

-- a look-up by the order of names finds what one by equality of their bytes does
pub lookup-bytes : {Z : Type 0} (name : List ℕ) (es : List (String Z × (List ℕ × Registration)))
    → registration_of (functions_of es) name ≡ option_map (λ v. v.1) (lookup (λ k. is_eq (name_cmp name (string_bytes k))) es)
lookup-bytes name [] = refl
lookup-bytes name (e ∷ es) = ap (λ b. cond b (Some e.1.1) (registration_of (functions_of es) name)) (sym (is_eq-slice_cmp name (string_bytes e.0))) ∙ by (is_eq (name_cmp name (string_bytes e.0))) (lookup-bytes name es)
  where
    by : (b : Bool) → registration_of (functions_of es) name ≡ option_map (λ v. v.1) (lookup (λ k. is_eq (name_cmp name (string_bytes k))) es)
        → cond b (Some e.1.1) (registration_of (functions_of es) name) ≡ option_map (λ v. v.1) (cond b (Some e.1) (lookup (λ k. is_eq (name_cmp name (string_bytes k))) es))
    by true h = refl
    by false h = h

-- an entry goes to the place of its name
pub insert-named : {Z : Type 0} (es : List (String Z × (List ℕ × Registration))) (k : String Z) (v : List ℕ × Registration)
    → functions_of (insert_entry key_cmp es k v) ≡ insert_entry name_cmp (functions_of es) (string_bytes k) v.1
insert-named [] k v = refl
insert-named (e ∷ es) k v = by (key_cmp k e.0) (insert-named es k v)
  where
    by : (o : Ordering) → functions_of (insert_entry key_cmp es k v) ≡ insert_entry name_cmp (functions_of es) (string_bytes k) v.1
        → functions_of (match_ordering o ((k, v) ∷ e ∷ es) ((e.0, v) ∷ es) (e ∷ insert_entry key_cmp es k v))
        ≡ match_ordering o ((string_bytes k, v.1) ∷ functions_of (e ∷ es)) ((string_bytes e.0, v.1) ∷ functions_of es) ((string_bytes e.0, e.1.1) ∷ insert_entry name_cmp (functions_of es) (string_bytes k) v.1)
    by Less h = refl
    by Equal h = refl
    by Greater h = ap (λ fs. (string_bytes e.0, e.1.1) ∷ fs) h

-- each name still stands at its own bytes
pub insert-keeps_names : {Z : Type 0} (es : List (String Z × (List ℕ × Registration))) (k : String Z) (v : List ℕ × Registration)
    → AreNamed es → v.0 ≡ string_bytes k → AreNamed (insert_entry key_cmp es k v)
insert-keeps_names [] k v each is = (is, tt)
insert-keeps_names (e ∷ es) k v each is = by (insert-keeps_names es k v each.1 is) (key_cmp k e.0) refl
  where
    by : AreNamed (insert_entry key_cmp es k v) → (o : Ordering) → key_cmp k e.0 ≡ o → AreNamed (match_ordering o ((k, v) ∷ e ∷ es) ((e.0, v) ∷ es) (e ∷ insert_entry key_cmp es k v))
    by rest Less h = (is, each)
    by rest Equal h = (is ∙ exact_bytes (string_bytes k) (string_bytes e.0) h, each.1)
    by rest Greater h = (each.0, rest)

-- keys in order have their bytes in order
below_all : {Z : Type 0} (k : String Z) (es : List (String Z × (List ℕ × Registration)))
    → AllByRecursion (λ y. key_cmp k y ≡ Less) (keys_of es) → AllByRecursion (λ y. name_cmp (string_bytes k) y ≡ Less) (keys_of (functions_of es))
below_all k [] each = tt
below_all k (e ∷ es) each = (each.0, below_all k es each.1)

pub named-ordered : {Z : Type 0} (es : List (String Z × (List ℕ × Registration))) → IsStrictlySortedBy key_cmp (keys_of es) → AreInOrder (functions_of es)
unfolding IsStrictlySortedBy
named-ordered [] sorted = tt
named-ordered (e ∷ es) sorted = (below_all e.0 es sorted.0, named-ordered es sorted.1)

-- where the first name that is left is past, it is the next one
pub next-here : {Z : Type 0} (es rest : List (String Z × (List ℕ × Registration))) (k : String Z) (v : List ℕ × Registration) (after target : Option (List ℕ)) (past : Bool)
    → es ≡ (k, v) ∷ rest → (next_name (functions_of es) after ≡ target) × AreNamed es → past ≡ is_past after (string_bytes k) → past ≡ true → Some v.0 ≡ target
next-here es rest k v after target past is known tested passes =
    let each = subst AreNamed is known.1 in
    ap Some each.0
    ∙ sym (ap (λ b. cond b (Some (string_bytes k)) (next_name (functions_of rest) after)) (sym tested ∙ passes))
    ∙ sym (ap (λ fs. next_name (functions_of fs) after) is) ∙ known.0

-- else it is sought among the others
pub next-later : {Z : Type 0} (es rest : List (String Z × (List ℕ × Registration))) (k : String Z) (v : List ℕ × Registration) (after target : Option (List ℕ)) (past : Bool)
    → es ≡ (k, v) ∷ rest → (next_name (functions_of es) after ≡ target) × AreNamed es → past ≡ is_past after (string_bytes k) → past ≡ false
    → (next_name (functions_of rest) after ≡ target) × AreNamed rest
next-later es rest k v after target past is known tested fails =
    let each = subst AreNamed is known.1 in (
      sym (ap (λ b. cond b (Some (string_bytes k)) (next_name (functions_of rest) after)) (sym tested ∙ fails))
          ∙ sym (ap (λ fs. next_name (functions_of fs) after) is) ∙ known.0,
      each.1,
    )

-- where none is left there is no next name
pub next-none : {Z : Type 0} (es : List (String Z × (List ℕ × Registration))) (after target : Option (List ℕ))
    → es ≡ [] → (next_name (functions_of es) after ≡ target) × AreNamed es → None ≡ target
next-none es after target is known = sym (ap (λ fs. next_name (functions_of fs) after) is) ∙ known.0

-- whether or not an entry goes in, each name stands at its own bytes
pub kept-names : {Z X E : Type 0} (r : Result X E) (old new : List (String Z × (List ℕ × Registration))) (k : String Z) (v : List ℕ × Registration)
    → OnOk r (new ≡ insert_entry key_cmp old k v) → OnErr r (new ≡ old) → AreNamed old → v.0 ≡ string_bytes k → AreNamed new
kept-names (Ok x) old new k v done refused each is = subst AreNamed (sym done) (insert-keeps_names old k v each is)
kept-names (Err e) old new k v done refused each is = subst AreNamed (sym refused) each

-- an entry that goes in goes to the place of its name
pub put-named : {Z X E : Type 0} (r : Result X E) (old new : List (String Z × (List ℕ × Registration))) (k : String Z) (v : List ℕ × Registration) (before : List (List ℕ × Registration))
    → OnOk r (new ≡ insert_entry key_cmp old k v) → functions_of old ≡ before → string_bytes k ≡ v.0 → OnOk r (functions_of new ≡ insert_entry name_cmp before v.0 v.1)
put-named (Ok x) old new k v before done was is =
    ap functions_of done ∙ insert-named old k v ∙ ap (λ es. insert_entry name_cmp es (string_bytes k) v.1) was ∙ ap (λ n. insert_entry name_cmp before n v.1) is
put-named (Err e) old new k v before done was is = tt
