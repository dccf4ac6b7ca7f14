-- How the number of formulas changes when a cell gets a content.
use Rattle.std.proofs.Common.{◌≡◌, ℕ, ◌+◌, ◌≤◌, Bool, true, false, not, ◌&&◌, nat_le, cond, List, [], ◌∷◌, length, Option, Some, None, is_some, is_none, refl, ap, sym, ◌∙◌, arith, unwrap_or}
use Rattle.std.specs.List.{sum_by}
use Rattle.std.specs.Option.{option_map}
use Rattle.std.specs.Map.{values_of, keys_of, remove_entry}
use Rattle.std.specs.BTreeMap.{insert_entry}
use Rattle.std.specs.List.Sorted.{IsStrictlySortedBy}
use Rattle.std.proofs.lemmas.Map.Entries.{sum_by-insert_entry, sum_by-remove_entry}
use Rattle.std.proofs.lemmas.Bool.Decides.{nat_tests}
use Rattle.std.proofs.lemmas.List.Sums.{sum_by-cons, count_by-le-length}
use Rattle.cell_refs.specs.declared.grid.Cell.{Cell}
use Rattle.cell_refs.specs.Cell.{cell_cmp, same_cell}
use Rattle.cell_refs.proofs.PublicLaws.{cells_total}
use Rattle.workbook.specs.declared.contents.Content.{Content}
use Rattle.workbook.specs.Book.{CELL_LIMIT, FORMULA_LIMIT, formula_weight, formula_count, has_formula, content_at}

-- the count is the sum of the weights
counted : (book : List (Cell × Content)) → formula_count book ≡ sum_by formula_weight (values_of book)
counted [] = refl
counted (e ∷ es) =
    omega (arith, sum_by-cons (λ (p : Cell × Content). cond (has_formula (Some p.1)) 1 0) e es, sum_by-cons formula_weight e.1 (values_of es), counted es)

pub formula_weight-le : (content : Content) → formula_weight content ≤ 1
formula_weight-le content = elim (has_formula (Some content)) as (λ b. cond b 1 0 ≤ 1) [ true ↦ omega arith | false ↦ omega arith ]

pub formula_count-le : (book : List (Cell × Content)) → formula_count book ≤ length book
formula_count-le book = count_by-le-length (λ e. has_formula (Some e.1)) book

-- after a cell gets a content, its old weight is gone and its new one is there
pub formula_count-insert : (book : List (Cell × Content)) (cell : Cell) (content : Content) → IsStrictlySortedBy cell_cmp (keys_of book)
    → formula_count (insert_entry cell_cmp book cell content) + unwrap_or (option_map formula_weight (content_at book cell)) 0 ≡ formula_count book + formula_weight content
formula_count-insert book cell content sorted =
    let law = sum_by-insert_entry formula_weight cells_total book cell content sorted in
    omega (arith, law, counted book, counted (insert_entry cell_cmp book cell content))

-- after a cell is cleared its old weight is gone
pub formula_count-remove : (book : List (Cell × Content)) (cell : Cell)
    → formula_count (remove_entry (same_cell cell) book) + unwrap_or (option_map formula_weight (content_at book cell)) 0 ≡ formula_count book
formula_count-remove book cell =
    let law = sum_by-remove_entry formula_weight (same_cell cell) book in
    omega (arith, law, counted book, counted (remove_entry (same_cell cell) book))

-- the weight of what a cell has
weight_of : (o : Option Content) → unwrap_or (option_map formula_weight o) 0 ≡ cond (has_formula o) 1 0
weight_of None = refl
weight_of (Some x) = refl

-- a content that passes no limit leaves no more cells than the limit
pub cells-within : (o : Option Content) (n m : ℕ) → (is_none o && nat_le CELL_LIMIT n) ≡ false → n ≤ CELL_LIMIT → m ≡ n + cond (is_some o) 0 1 → m ≤ CELL_LIMIT
cells-within None n m within most is = grind (arith, nat_tests)
cells-within (Some x) n m within most is = omega (arith, most, is)

formulas_within : (new old : Bool) (n m : ℕ) → (new && (not old && nat_le FORMULA_LIMIT n)) ≡ false → n ≤ FORMULA_LIMIT → m + cond old 1 0 ≡ n + cond new 1 0 → m ≤ FORMULA_LIMIT
formulas_within true true n m within most is = omega (arith, most, is)
formulas_within true false n m within most is = grind (arith, nat_tests)
formulas_within false true n m within most is = omega (arith, most, is)
formulas_within false false n m within most is = omega (arith, most, is)

-- nor more formulas
pub formulas-within : (o : Option Content) (x : Content) (n m : ℕ) → (has_formula (Some x) && (not (has_formula o) && nat_le FORMULA_LIMIT n)) ≡ false → n ≤ FORMULA_LIMIT
    → m + unwrap_or (option_map formula_weight o) 0 ≡ n + formula_weight x → m ≤ FORMULA_LIMIT
formulas-within o x n m within most is = formulas_within (has_formula (Some x)) (has_formula o) n m within most (ap (λ w. m + w) (sym (weight_of o)) ∙ is)
