-- The list of what the sheet shows: in cell order, and of each cell what is shown of it.
use Rattle.std.proofs.Common.{◌≡◌, Bool, true, false, not, cond, ◌&&◌, List, [], ◌∷◌, ◌++◌, Option, Some, None, unwrap_or, append_assoc, refl, ap, sym, subst, ◌∙◌}
use Rattle.std.specs.Option.{option_or}
use Rattle.std.specs.List.{AllByRecursion}
use Rattle.std.specs.Map.{keys_of}
use Rattle.std.specs.BTreeMap.Range as ranges
use Rattle.std.specs.declared.ops.Bound.{Bound}
use Rattle.std.proofs.lemmas.Map.Entries.{lookup-filter-keys}
use Rattle.cell_refs.specs.declared.grid.Cell.{Cell}
use Rattle.cell_refs.specs.Cell.{cell_cmp, same_cell}
use Rattle.cell_refs.proofs.PublicLaws.{same_cell_is}
use Rattle.cell_values.specs.declared.values.Value.{Value}
use Rattle.cell_store.specs.Gathering.{is_behind, is_less}
use Rattle.cell_store.specs.Listing.{bound_of, entries_between, sheet_from, shown_entry}
use Rattle.cell_store.specs.Scanning.{is_before}
use Rattle.cell_store.specs.Store.{AreInOrder, entry_at}
use Rattle.cell_store.proofs.CellsInOrder.{apart-greater, less-not_itself, less-one_way, less-upto}
use Rattle.cell_store.proofs.Entries.{all_append, behind_first, found_append, found_before, kept_alike, kept_pass, keys_lead, order_append, order_first, order_kept, order_tail, first_passes, second_passes}
use Rattle.cell_store.proofs.Walked.{level}

-- ---- a range of a map
not_not : (b : Bool) → not (not b) ≡ b
not_not true = refl
not_not false = refl

-- a cell lies in the range between two cells exactly where it stands between them
from_start : (after : Option Cell) (q : Cell) → ranges.is_from_start cell_cmp (bound_of after) q ≡ is_behind after q
from_start None q = refl
from_start (Some a) q = refl

up_to_end : (end : Option Cell) (q : Cell) → not (ranges.is_past_end cell_cmp (bound_of end) q) ≡ is_before end q
up_to_end None q = refl
up_to_end (Some b) q = ap not (level b q) ∙ not_not (is_less q b)

-- so the range of a map has the entries between them
pub range-between : (after end : Option Cell) (lo hi : Bound Cell) (entries range : List (Cell × Option Value)) → lo ≡ bound_of after → hi ≡ bound_of end → range ≡ ranges.entries_between cell_cmp lo hi entries
    → range ≡ entries_between after end entries
range-between after end lo hi entries range first last is =
    is
    ∙ ap (λ b. ranges.entries_between cell_cmp b hi entries) first
    ∙ ap (λ b. ranges.entries_between cell_cmp (bound_of after) b entries) last
    ∙ kept_alike (λ e. ranges.range_contains cell_cmp (bound_of after) (bound_of end) e.0) (λ e. is_behind after e.0 && is_before end e.0)
    (λ e. ap (λ b. b && not (ranges.is_past_end cell_cmp (bound_of end) e.0)) (from_start after e.0) ∙ ap (λ b. is_behind after e.0 && b) (up_to_end end e.0)) entries

-- ---- behind and before
-- what stands behind a later cell stands behind an earlier one
behind_later : (last : Option Cell) (cell k : Cell) → is_behind last cell ≡ true → is_less cell k ≡ true → is_behind last k ≡ true
behind_later None cell k first less = refl
behind_later (Some c) cell k first less = less-upto c cell k first (less-one_way cell k less)

-- the entries between two cells stand behind the one and before the other
between_behind : (last end : Option Cell) (present : List (Cell × Option Value)) → AllByRecursion (λ k. is_behind last k ≡ true) (keys_of (entries_between last end present))
between_behind last end present = keys_lead (λ k. (is_behind last k && is_before end k) ≡ true) (λ k. is_behind last k ≡ true) (λ k h. first_passes (is_behind last k) (is_before end k) h)
    (keys_of (entries_between last end present)) (kept_pass (λ k. is_behind last k && is_before end k) present)

between_before : (last end : Option Cell) (present : List (Cell × Option Value)) → AllByRecursion (λ k. is_before end k ≡ true) (keys_of (entries_between last end present))
between_before last end present = keys_lead (λ k. (is_behind last k && is_before end k) ≡ true) (λ k. is_before end k ≡ true) (λ k h. second_passes (is_behind last k) (is_before end k) h)
    (keys_of (entries_between last end present)) (kept_pass (λ k. is_behind last k && is_before end k) present)

-- what holds of a cell holds along the entry that it shows
entry_all : (P : Cell → Type 0) (cell : Cell) (shown : Option (Option Value)) → P cell → AllByRecursion P (keys_of (shown_entry cell shown))
entry_all P cell None h = tt
entry_all P cell (Some v) h = (h, tt)

-- ---- in order
-- all that is listed stands behind the last cell
listed_behind : (present : List (Cell × Option Value)) (last : Option Cell) (es : List (Cell × Option (Option Value))) → AreInOrder es → AllByRecursion (λ k. is_behind last k ≡ true) (keys_of es)
    → AllByRecursion (λ k. is_behind last k ≡ true) (keys_of (sheet_from present last es))
listed_behind present last [] ordered behind = between_behind last None present
listed_behind present last (e ∷ es) ordered behind =
    all_append (λ k. is_behind last k ≡ true) (entries_between last (Some e.0) present) (shown_entry e.0 e.1 ++ sheet_from present (Some e.0) es)
    (between_behind last (Some e.0) present)
    (all_append (λ k. is_behind last k ≡ true) (shown_entry e.0 e.1) (sheet_from present (Some e.0) es)
    (entry_all (λ k. is_behind last k ≡ true) e.0 e.1 behind.0)
    (keys_lead (λ k. is_less e.0 k ≡ true) (λ k. is_behind last k ≡ true) (λ k less. behind_later last e.0 k behind.0 less) (keys_of (sheet_from present (Some e.0) es))
    (listed_behind present (Some e.0) es (order_tail e es ordered) (behind_first e es ordered))))

-- from a touched cell on nothing is less than that
listed_upto : (present : List (Cell × Option Value)) (e : Cell × Option (Option Value)) (es : List (Cell × Option (Option Value))) → AreInOrder (e ∷ es)
    → AllByRecursion (λ k. is_less k e.0 ≡ false) (keys_of (shown_entry e.0 e.1 ++ sheet_from present (Some e.0) es))
listed_upto present e es ordered =
    all_append (λ k. is_less k e.0 ≡ false) (shown_entry e.0 e.1) (sheet_from present (Some e.0) es)
    (entry_all (λ k. is_less k e.0 ≡ false) e.0 e.1 (less-not_itself e.0))
    (keys_lead (λ k. is_less e.0 k ≡ true) (λ k. is_less k e.0 ≡ false) (λ k less. less-one_way e.0 k less) (keys_of (sheet_from present (Some e.0) es))
    (listed_behind present (Some e.0) es (order_tail e es ordered) (behind_first e es ordered)))

-- so what is less than the cell is less than all of that
listed_above : (present : List (Cell × Option Value)) (e : Cell × Option (Option Value)) (es : List (Cell × Option (Option Value))) → AreInOrder (e ∷ es) → (q : Cell) → is_less q e.0 ≡ true
    → AllByRecursion (λ k. is_less q k ≡ true) (keys_of (shown_entry e.0 e.1 ++ sheet_from present (Some e.0) es))
listed_above present e es ordered q less =
    keys_lead (λ k. is_less k e.0 ≡ false) (λ k. is_less q k ≡ true) (λ k upto. less-upto q e.0 k less upto) (keys_of (shown_entry e.0 e.1 ++ sheet_from present (Some e.0) es)) (listed_upto present e es ordered)

-- an entry before what is listed
order_entry : (cell : Cell) (shown : Option (Option Value)) (rest : List (Cell × Option Value)) → AreInOrder rest → AllByRecursion (λ k. is_less cell k ≡ true) (keys_of rest) → AreInOrder (shown_entry cell shown ++ rest)
order_entry cell None rest ordered above = ordered
order_entry cell (Some v) rest ordered above = order_first (cell, v) rest above ordered

-- the list is in cell order
pub listed-in_order : (present : List (Cell × Option Value)) → AreInOrder present → (last : Option Cell) (es : List (Cell × Option (Option Value))) → AreInOrder es → AreInOrder (sheet_from present last es)
listed-in_order present all last [] ordered = order_kept (λ k. is_behind last k && is_before None k) present all
listed-in_order present all last (e ∷ es) ordered =
    order_append (entries_between last (Some e.0) present) (shown_entry e.0 e.1 ++ sheet_from present (Some e.0) es)
    (order_kept (λ k. is_behind last k && is_less k e.0) present all)
    (order_entry e.0 e.1 (sheet_from present (Some e.0) es) (listed-in_order present all (Some e.0) es (order_tail e es ordered)) (listed_behind present (Some e.0) es (order_tail e es ordered) (behind_first e es ordered)))
    (keys_lead (λ k. is_less k e.0 ≡ true) (λ k. AllByRecursion (λ d. is_less k d ≡ true) (keys_of (shown_entry e.0 e.1 ++ sheet_from present (Some e.0) es))) (λ k less. listed_above present e es ordered k less)
    (keys_of (entries_between last (Some e.0) present)) (between_before last (Some e.0) present))

-- ---- what is shown
-- what is found between two cells
found_between : (last end : Option Cell) (present : List (Cell × Option Value)) (q : Cell) → is_behind last q ≡ true → entry_at (entries_between last end present) q ≡ cond (is_before end q) (entry_at present q) None
found_between last end present q behind =
    lookup-filter-keys (same_cell q) (λ k. is_behind last k && is_before end k) (is_behind last q && is_before end q) (λ k same. ap (λ c. is_behind last c && is_before end c) (sym (same_cell_is q k same))) present
    ∙ ap (λ b. cond (b && is_before end q) (entry_at present q) None) behind

-- nothing more
or_none : {X : Type 0} (o : Option X) → option_or o None ≡ o
or_none None = refl
or_none (Some x) = refl

-- a touched cell shows its entry
found_entry : (q cell : Cell) (shown : Option (Option Value)) (rest : List (Cell × Option Value)) → same_cell q cell ≡ true → AllByRecursion (λ k. is_less cell k ≡ true) (keys_of rest) → entry_at (shown_entry cell shown ++ rest) q ≡ shown
found_entry q cell None rest same above = found_before q rest (subst (λ c. AllByRecursion (λ k. is_less c k ≡ true) (keys_of rest)) (sym (same_cell_is q cell same)) above)
found_entry q cell (Some v) rest same above = ap (λ b. cond b (Some v) (entry_at rest q)) same

-- other cells are looked for behind it
found_behind : (q cell : Cell) (shown : Option (Option Value)) (rest : List (Cell × Option Value)) → same_cell q cell ≡ false → entry_at (shown_entry cell shown ++ rest) q ≡ entry_at rest q
found_behind q cell None rest apart = refl
found_behind q cell (Some v) rest apart = ap (λ b. cond b (Some v) (entry_at rest q)) apart

-- a cell behind the last one is shown as it was, or as it is present where it isn't touched
found_listed : (present : List (Cell × Option Value)) (last : Option Cell) (es : List (Cell × Option (Option Value))) → AreInOrder es → (q : Cell) → is_behind last q ≡ true
    → entry_at (sheet_from present last es) q ≡ unwrap_or (entry_at es q) (entry_at present q)
found_listed present last [] ordered q behind = found_between last None present q behind
found_listed present last (e ∷ es) ordered q behind =
    let rest = shown_entry e.0 e.1 ++ sheet_from present (Some e.0) es in
    found_append q (entries_between last (Some e.0) present) rest
    ∙ ap (λ o. option_or o (entry_at rest q)) (found_between last (Some e.0) present q behind)
    ∙ elim (is_less q e.0) as (λ b. is_less q e.0 ≡ b → option_or (cond b (entry_at present q) None) (entry_at rest q) ≡ unwrap_or (entry_at (e ∷ es) q) (entry_at present q)) [
      | true ↦ λ less.
          ap (option_or (entry_at present q)) (found_before q rest (listed_above present e es ordered q less))
          ∙ or_none (entry_at present q)
          ∙ ap (λ o. unwrap_or o (entry_at present q)) (sym (found_before q (e ∷ es) (less, keys_lead (λ k. is_less e.0 k ≡ true) (λ k. is_less q k ≡ true) (λ k more. less-upto q e.0 k less (less-one_way e.0 k more)) (keys_of es) (behind_first e es ordered))))
      | false ↦ λ upto. elim (same_cell q e.0) as (λ b. same_cell q e.0 ≡ b → entry_at rest q ≡ unwrap_or (cond b (Some e.1) (entry_at es q)) (entry_at present q)) [
        | true ↦ λ same. found_entry q e.0 e.1 (sheet_from present (Some e.0) es) same (listed_behind present (Some e.0) es (order_tail e es ordered) (behind_first e es ordered))
        | false ↦ λ apart. found_behind q e.0 e.1 (sheet_from present (Some e.0) es) apart ∙ found_listed present (Some e.0) es (order_tail e es ordered) q (apart-greater q e.0 apart upto)
      ] refl
    ] refl

-- the list has of each cell what is shown of it
pub listed-shown : (present : List (Cell × Option Value)) (es : List (Cell × Option (Option Value))) → AreInOrder es → (q : Cell) → entry_at (sheet_from present None es) q ≡ unwrap_or (entry_at es q) (entry_at present q)
listed-shown present es ordered q = found_listed present None es ordered q refl

-- ---- for the functions
-- one touched cell more
pub listed-next : (present : List (Cell × Option Value)) (last : Option Cell) (old mid new whole : List (Cell × Option Value)) (left es : List (Cell × Option (Option Value))) (e : Cell × Option (Option Value))
    → left ≡ e ∷ es → mid ≡ old ++ entries_between last (Some e.0) present → new ≡ mid ++ shown_entry e.0 e.1 → old ++ sheet_from present last left ≡ whole → new ++ sheet_from present (Some e.0) es ≡ whole
listed-next present last old mid new whole left es e first between entry same =
    ap (λ xs. xs ++ sheet_from present (Some e.0) es) (entry ∙ ap (λ xs. xs ++ shown_entry e.0 e.1) between)
    ∙ append_assoc (old ++ entries_between last (Some e.0) present) (shown_entry e.0 e.1) (sheet_from present (Some e.0) es)
    ∙ append_assoc old (entries_between last (Some e.0) present) (shown_entry e.0 e.1 ++ sheet_from present (Some e.0) es)
    ∙ ap (λ xs. old ++ sheet_from present last xs) (sym first)
    ∙ same

-- what is left of the touched cells stands behind the last one, in order
pub record IsBehind (last : Option Cell) (left : List (Cell × Option (Option Value))) : Type 0 where
  pub ordered : AreInOrder left
  pub behind : AllByRecursion (λ k. is_behind last k ≡ true) (keys_of left)

-- and the others behind it
pub behind-next : (last : Option Cell) (left es : List (Cell × Option (Option Value))) (e : Cell × Option (Option Value)) → left ≡ e ∷ es → IsBehind last left → IsBehind (Some e.0) es
behind-next last left es e first is =
    let here = subst (IsBehind last) first is in
    record { ordered = order_tail e es here.ordered; behind = behind_first e es here.ordered }
