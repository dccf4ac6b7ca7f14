-- The index after the table's change, and the readers that it finds.
use Rattle.std.proofs.Common.{◌≡◌, Bool, true, false, cond, ◌&&◌, ◌||◌, None, Some, List, [], ◌∷◌, refl, ap, sym, ◌∙◌, subst}
use Rattle.std.specs.Prelude.{map, not, Result, Ok, Err, OnOk, IfErr}
use Rattle.std.specs.declared.cmp.Ordering.TheVariants.{Less, Equal, Greater}
use Rattle.std.specs.Ordering.{is_eq, match_ordering}
use Rattle.std.specs.Option.{unwrap_or}
use Rattle.std.specs.BTreeMap.{insert_entry}
use Rattle.std.specs.List.{list_any}
use Rattle.std.specs.List.Sorted.{IsStrictlySortedBy}
use Rattle.std.specs.Map.{keys_of, lookup, remove_entry}
use Rattle.std.proofs.lemmas.Map.{lookup-remove_entry}
use Rattle.std.proofs.lemmas.Map.Keys.{IsDistinct-from_sorted}
use Rattle.cell_refs.specs.declared.areas.Area.{Area}
use Rattle.cell_refs.specs.declared.grid.Cell.{Cell}
use Rattle.cell_refs.specs.Cell.{cell_cmp, same_cell}
use Rattle.cell_refs.proofs.PublicLaws.{same_cell_is, same_cells}
use Rattle.area_index.specs.declared.pairs.Pair.{Pair}
use Rattle.area_index.specs.Pairs.{same_pair}
use Rattle.area_index.specs.Forests.{Forest, has_pair, names, pair_at, HasInstead, HasNoMore, HasNone, SamePairs}
use Rattle.area_index.proofs.PublicLaws.{same_pair_is}
use Rattle.dep_table.specs.Table.{IsInOrder, areas_at}
use Rattle.dep_table.specs.Indexed.{IsIndexed}

by_cells : (P : Type 0) (a b : Cell) → (a ≡ b → P) → (same_cell a b ≡ false → P) → P
by_cells P a b same apart = elim (same_cell a b) as (λ t. same_cell a b ≡ t → P) [
  | true ↦ λ e. same (same_cell_is a b e)
  | false ↦ λ e. apart e
] refl

-- ---- entries looked up

put-here : {X : Type 0} (k : Cell) (v : X) (es : List (Cell × X)) → lookup (same_cell k) (insert_entry cell_cmp es k v) ≡ Some v
put-here k v [] = ap (λ b. cond b (Some v) None) (same_cells.refl k)
put-here k v (e ∷ es) =
    elim (cell_cmp k e.0) as (λ o. cell_cmp k e.0 ≡ o → lookup (same_cell k) (match_ordering o ((k, v) ∷ e ∷ es) ((e.0, v) ∷ es) (e ∷ insert_entry cell_cmp es k v)) ≡ Some v) [
      | Less ↦ λ _. ap (λ b. cond b (Some v) (lookup (same_cell k) (e ∷ es))) (same_cells.refl k)
      | Equal ↦ λ same. ap (λ o. cond (is_eq o) (Some v) (lookup (same_cell k) es)) same
      | Greater ↦ λ more. ap (λ o. cond (is_eq o) (Some e.1) (lookup (same_cell k) (insert_entry cell_cmp es k v))) more ∙ put-here k v es
    ] refl

put-elsewhere : {X : Type 0} (k : Cell) (v : X) (q : Cell) → same_cell q k ≡ false → (es : List (Cell × X)) → lookup (same_cell q) (insert_entry cell_cmp es k v) ≡ lookup (same_cell q) es
put-elsewhere k v q apart [] = ap (λ b. cond b (Some v) None) apart
put-elsewhere k v q apart (e ∷ es) =
    elim (cell_cmp k e.0) as (λ o. cell_cmp k e.0 ≡ o → lookup (same_cell q) (match_ordering o ((k, v) ∷ e ∷ es) ((e.0, v) ∷ es) (e ∷ insert_entry cell_cmp es k v)) ≡ lookup (same_cell q) (e ∷ es)) [
      | Less ↦ λ _. ap (λ b. cond b (Some v) (lookup (same_cell q) (e ∷ es))) apart
      | Equal ↦ λ same.
          let away : same_cell q e.0 ≡ false = subst (λ c. same_cell q c ≡ false) (same_cell_is k e.0 (ap is_eq same)) apart in
          ap (λ b. cond b (Some v) (lookup (same_cell q) es)) away ∙ sym (ap (λ b. cond b (Some e.1) (lookup (same_cell q) es)) away)
      | Greater ↦ λ _. ap (λ found. cond (same_cell q e.0) (Some e.1) found) (put-elsewhere k v q apart es)
    ] refl

taken : {X : Type 0} (k q : Cell) (es : List (Cell × X)) → IsStrictlySortedBy cell_cmp (keys_of es) → lookup (same_cell q) (remove_entry (same_cell k) es) ≡ cond (same_cell k q) None (lookup (same_cell q) es)
taken k q es ordered = lookup-remove_entry same_cells (same_cell k) (λ x y same. same_cells.congr k x y same) q es (IsDistinct-from_sorted cell_cmp (keys_of es) ordered)

-- ---- the index after a change

-- a pair of one reader isn't that of another
other_reader : (p : Pair) (reader : Cell) (area : Area) → same_cell p.reader reader ≡ false → same_pair p (pair_at reader area) ≡ false
other_reader p reader area apart = elim (same_pair p (pair_at reader area)) as (λ w. same_pair p (pair_at reader area) ≡ w → w ≡ false) [
  | true ↦ λ e. sym (subst (λ q. same_cell p.reader q ≡ true) (ap (λ q. q.reader) (same_pair_is p (pair_at reader area) e)) (same_cells.refl p.reader)) ∙ apart
  | false ↦ λ e. refl
] refl

names_other : (p : Pair) (reader : Cell) (areas : List Area) → same_cell p.reader reader ≡ false → names reader areas p ≡ false
names_other p reader [] apart = refl
names_other p reader (a ∷ areas) apart = rw (other_reader p reader a apart) (names_other p reader areas apart)

any_map : (t : Pair → Bool) (reader : Cell) (areas : List Area) → list_any t (map (pair_at reader) areas) ≡ list_any (λ area. t (pair_at reader area)) areas
any_map t reader [] = refl
any_map t reader (a ∷ areas) = ap (λ z. t (pair_at reader a) || z) (any_map t reader areas)

not_and : (x : Bool) → (not x && x) ≡ false
not_and true = refl
not_and false = refl

or_false : (x : Bool) → (x || false) ≡ x
or_false true = refl
or_false false = refl

-- no pairs are those of no readers
pub indexed-none : (index : Forest) (table : List (Cell × List Area)) → HasNone index → table ≡ [] → IsInOrder table → IsIndexed index table
indexed-none index table none e ordered = record { ordered = ordered; pairs = λ p. none p ∙ sym (ap (λ t. names p.reader (areas_at t p.reader) p) e) }

-- an index with the same pairs, and a table that is the same
pub indexed-same : (old new : Forest) (table other : List (Cell × List Area)) → IsIndexed old table → SamePairs old new → other ≡ table → IsIndexed new other
indexed-same old new table other i same e = rw e (record { ordered = i.ordered; pairs = λ p. same p ∙ i.pairs p })

-- a reader's new pairs in place of its old ones
pub indexed-put : (old new : Forest) (table other : List (Cell × List Area)) (reader : Cell) (areas : List Area) (pairs : List Pair) → IsIndexed old table → HasInstead old new reader (areas_at table reader) pairs → pairs ≡ map (pair_at reader) areas → other ≡ insert_entry cell_cmp table reader areas → IsInOrder other → IsIndexed new other
indexed-put old new table other reader areas pairs i instead made is ordered = record {
  ordered = ordered;
  pairs = λ p. instead p ∙ by_cells ((list_any (same_pair p) pairs || (not (names reader (areas_at table reader) p) && has_pair old p)) ≡ names p.reader (areas_at other p.reader) p) p.reader reader
      (λ e.
      let had : has_pair old p ≡ names reader (areas_at table reader) p = i.pairs p ∙ ap (λ r. names r (areas_at table r) p) e in
      let now : areas_at other p.reader ≡ areas = ap (areas_at other) e ∙ ap (λ t. areas_at t reader) is ∙ ap (λ o. unwrap_or o []) (put-here reader areas table) in
      ap (λ b. list_any (same_pair p) pairs || (not (names reader (areas_at table reader) p) && b)) had
      ∙ ap (λ b. list_any (same_pair p) pairs || b) (not_and (names reader (areas_at table reader) p))
      ∙ or_false (list_any (same_pair p) pairs)
      ∙ ap (list_any (same_pair p)) made
      ∙ any_map (same_pair p) reader areas
      ∙ sym (ap (λ as'. names p.reader as' p) now ∙ ap (λ r. names r areas p) e))
      (λ apart.
      let now : areas_at other p.reader ≡ areas_at table p.reader = ap (λ t. areas_at t p.reader) is ∙ ap (λ o. unwrap_or o []) (put-elsewhere reader areas p.reader apart table) in
      ap (λ b. b || (not (names reader (areas_at table reader) p) && has_pair old p)) (ap (list_any (same_pair p)) made ∙ any_map (same_pair p) reader areas ∙ names_other p reader areas apart)
      ∙ ap (λ b. not b && has_pair old p) (names_other p reader (areas_at table reader) apart)
      ∙ i.pairs p
      ∙ sym (ap (λ as'. names p.reader as' p) now));
}

-- a reader's pairs taken out
pub indexed-removed : (old new : Forest) (table other : List (Cell × List Area)) (reader : Cell) → IsIndexed old table → HasNoMore old new reader (areas_at table reader) → other ≡ remove_entry (same_cell reader) table → IsInOrder other → IsIndexed new other
indexed-removed old new table other reader i less is ordered = record {
  ordered = ordered;
  pairs = λ p. less p ∙ by_cells ((not (names reader (areas_at table reader) p) && has_pair old p) ≡ names p.reader (areas_at other p.reader) p) p.reader reader
      (λ e.
      let had : has_pair old p ≡ names reader (areas_at table reader) p = i.pairs p ∙ ap (λ r. names r (areas_at table r) p) e in
      let now : areas_at other p.reader ≡ [] = ap (areas_at other) e ∙ ap (λ t. areas_at t reader) is ∙ ap (λ o. unwrap_or o []) (taken reader reader table i.ordered ∙ ap (λ b. cond b None (lookup (same_cell reader) table)) (same_cells.refl reader)) in
      ap (λ b. not (names reader (areas_at table reader) p) && b) had
      ∙ not_and (names reader (areas_at table reader) p)
      ∙ sym (ap (λ as'. names p.reader as' p) now))
      (λ apart.
      let now : areas_at other p.reader ≡ areas_at table p.reader = ap (λ t. areas_at t p.reader) is ∙ ap (λ o. unwrap_or o []) (taken reader p.reader table i.ordered ∙ ap (λ b. cond b None (lookup (same_cell p.reader) table)) (same_cells.symm reader p.reader ∙ apart)) in
      ap (λ b. not b && has_pair old p) (names_other p reader (areas_at table reader) apart)
      ∙ i.pairs p
      ∙ sym (ap (λ as'. names p.reader as' p) now));
}

-- the index and the table after a call that may be refused
pub indexed-after : {A E : Type 0} (P : E → Type 0) (r : Result A E) (old ready new : Forest) (table other : List (Cell × List Area)) (reader : Cell) (areas : List Area) (pairs : List Pair) → IsIndexed old table → SamePairs old ready → OnOk r (other ≡ insert_entry cell_cmp table reader areas) → OnOk r (HasInstead ready new reader (areas_at table reader) pairs) → pairs ≡ map (pair_at reader) areas → IfErr r (λ back. P back × (other ≡ table) × (new ≡ ready)) → IsInOrder other → IsIndexed new other
indexed-after P (Ok a) old ready new table other reader areas pairs i same is instead made refused ordered = indexed-put ready new table other reader areas pairs (indexed-same old ready table table i same refl) instead made is ordered
indexed-after P (Err e) old ready new table other reader areas pairs i same is instead made refused ordered = rw (refused.2) (indexed-same old ready table other i same refused.1)
