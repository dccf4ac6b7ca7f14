-- Cells of a chain that are taken, moved and made due, each once.
use Rattle.std.proofs.Common.{◌≡◌, ◌+◌, ◌<◌, ◌≤◌, Bool, true, false, not, cond, ◌||◌, ◌&&◌, None, Some, List, [], ◌∷◌, ◌++◌, length, append_assoc, length-append, refl, ap, sym, subst, ◌∙◌, arith}
use Rattle.std.specs.List.{AllByRecursion, IsDistinct, filter}
use Rattle.std.specs.Prelude.{insert}
use Rattle.std.proofs.lemmas.Bool.{or_parts, and_parts}
use Rattle.std.proofs.lemmas.List.Folds.{list_any-append}
use Rattle.std.proofs.lemmas.List.Sorted.{IsPermutation-insert}
use Rattle.std.proofs.lemmas.Map.Keys.{IsDistinct-head, IsDistinct-tail, IsDistinct-cons, IsDistinct-IsPermutation}
use Rattle.std.proofs.lemmas.Map.Made.{length-le_from_is_member}
use Rattle.cell_chain.specs.CellOrder.{CellOrder, behind_first, entries_among, first_of, moved_behind, place_of, without}
use Rattle.cell_chain.proofs.PublicLaws.{among-append, among-entries_among, among-moved, among-without, due-split}
use Rattle.cell_refs.specs.declared.grid.Cell.{Cell}
use Rattle.cell_refs.specs.Cell.{is_among, same_cell}
use Rattle.cell_refs.proofs.PublicLaws.{same_cells}
use Rattle.calc_round.specs.Looks.{IsReordered}

-- ---- what is due

-- where there is no first cell, there is none
pub first-none : (due : List Cell) → first_of due ≡ None → due ≡ []
first-none [] h = refl
first-none (c ∷ due) h = cc

-- a cell that is taken stands between those that wait and the rest
pub taken : (waiting due : List Cell) (c : Cell) → first_of due ≡ Some c → (waiting ++ c ∷ []) ++ behind_first due ≡ waiting ++ due
taken waiting due c h = append_assoc waiting (c ∷ []) (behind_first due) ∙ ap (λ cs. waiting ++ cs) (sym (due-split due c h))

-- and there is room for it
pub room-left : (waiting due : List Cell) (c : Cell) → first_of due ≡ Some c → length waiting < length (waiting ++ due)
room-left waiting due c h =
    let all = length-append waiting due in
    let split = ap length (due-split due c h) in
    omega (arith, all, split)

-- the cells after a look are as many as before; one fewer where it was finished
pub as_many : (waiting : List Cell) (chain mid new : CellOrder) (c : Cell) → first_of chain.due ≡ Some c → mid ≡ record chain { due = behind_first chain.due }
    → new.due ≡ mid.due → (length ((waiting ++ c ∷ []) ++ new.due) ≡ length (waiting ++ chain.due)) × (length (waiting ++ new.due) + 1 ≡ length (waiting ++ chain.due))
as_many waiting chain mid new c first is same =
    let rest : new.due ≡ behind_first chain.due = same ∙ ap (λ m. m.due) is in
    let all : length ((waiting ++ c ∷ []) ++ new.due) ≡ length (waiting ++ chain.due) = ap (λ ds. length ((waiting ++ c ∷ []) ++ ds)) rest ∙ ap length (taken waiting chain.due c first) in
    let one = length-append (waiting ++ c ∷ []) new.due in
    let two = length-append waiting (c ∷ []) in
    let three = length-append waiting new.due in
    (all, omega (arith, all, one, two, three))

-- ---- each cell once

fails_all : (x : Cell) (xs : List Cell) → is_among xs x ≡ false → AllByRecursion (λ y. same_cell x y ≡ false) xs
fails_all x [] h = tt
fails_all x (y ∷ ys) h = let parts = or_parts (same_cell x y) (is_among ys x) h in (parts.0, fails_all x ys parts.1)

none_fails : (x : Cell) (xs : List Cell) → AllByRecursion (λ y. same_cell x y ≡ false) xs → is_among xs x ≡ false
none_fails x [] h = refl
none_fails x (y ∷ ys) h = ap (λ b. b || is_among ys x) h.0 ∙ none_fails x ys h.1

all_filtered : (P : Cell → Type 0) (p : Cell → Bool) (xs : List Cell) → AllByRecursion P xs → AllByRecursion P (filter p xs)
all_filtered P p [] h = tt
all_filtered P p (x ∷ xs) h = elim (p x) as (λ b. AllByRecursion P (cond b (x ∷ filter p xs) (filter p xs))) [
  | true ↦ (h.0, all_filtered P p xs h.1)
  | false ↦ all_filtered P p xs h.1
]

pub distinct-none : IsDistinct same_cell []
unfolding IsDistinct
distinct-none = tt

pub distinct-filter : (p : Cell → Bool) (xs : List Cell) → IsDistinct same_cell xs → IsDistinct same_cell (filter p xs)
distinct-filter p [] d = d
distinct-filter p (x ∷ xs) d =
    let rest = distinct-filter p xs (IsDistinct-tail same_cell x xs d) in
    elim (p x) as (λ b. IsDistinct same_cell (cond b (x ∷ filter p xs) (filter p xs))) [
      | true ↦ IsDistinct-cons same_cell x (filter p xs) (all_filtered (λ y. same_cell x y ≡ false) p xs (IsDistinct-head same_cell x xs d)) rest
      | false ↦ rest
    ]

-- a cell is not among the others
lacks : (a b : Bool) → b ≡ true → (a && not b) ≡ false
lacks true true h = refl
lacks true false h = cc
lacks false b h = refl

pub distinct-moved : (entries : List Cell) (x y : Cell) → IsDistinct same_cell entries → IsDistinct same_cell (moved_behind entries x y)
distinct-moved entries x y d =
    let rest = without entries x in
    let gone : is_among rest x ≡ false = among-without entries x x ∙ lacks (is_among entries x) (same_cell x x) (same_cells.refl x) in
    IsDistinct-IsPermutation same_cell same_cells.symm (x ∷ rest) (insert rest (place_of rest y + 1) x)
    (IsPermutation-insert rest (place_of rest y + 1) x)
    (IsDistinct-cons same_cell x rest (fails_all x rest gone) (distinct-filter (λ c. not (same_cell c x)) entries d))

-- a list with one cell more
swap : (a b d : Bool) → ((a || b) || d) ≡ ((a || d) || b)
swap true b d = refl
swap false true true = refl
swap false true false = refl
swap false false true = refl
swap false false false = refl

pub among-out : (waiting due : List Cell) (c q : Cell) → is_among ((waiting ++ c ∷ []) ++ due) q ≡ (is_among (waiting ++ due) q || same_cell q c)
among-out waiting due c q =
    list_any-append (same_cell q) (waiting ++ c ∷ []) due
    ∙ ap (λ b. b || is_among due q) (among-append waiting c q)
    ∙ swap (is_among waiting q) (same_cell q c) (is_among due q)
    ∙ ap (λ b. b || same_cell q c) (sym (list_any-append (same_cell q) waiting due))

-- it isn't among the others, and each of these stands there once
pub distinct-out : (waiting due : List Cell) (c : Cell) → IsDistinct same_cell ((waiting ++ c ∷ []) ++ due)
    → (is_among (waiting ++ due) c ≡ false) × IsDistinct same_cell (waiting ++ due)
distinct-out [] due c d = (none_fails c due (IsDistinct-head same_cell c due d), IsDistinct-tail same_cell c due d)
distinct-out (x ∷ waiting) due c d =
    let later = distinct-out waiting due c (IsDistinct-tail same_cell x ((waiting ++ c ∷ []) ++ due) d) in
    let apart = or_parts (is_among (waiting ++ due) x) (same_cell x c)
    (sym (among-out waiting due c x) ∙ none_fails x ((waiting ++ c ∷ []) ++ due) (IsDistinct-head same_cell x ((waiting ++ c ∷ []) ++ due) d)) in (
      ap (λ b. b || is_among (waiting ++ due) c) (same_cells.symm c x ∙ apart.1) ∙ later.0,
      IsDistinct-cons same_cell x (waiting ++ due) (fails_all x (waiting ++ due) apart.0) later.1,
    )

-- ---- a chain in another order

pub reordered-none : (chain : CellOrder) → IsReordered chain chain
reordered-none chain = record { due = refl; cells = λ q. refl; once = λ d. d }

pub reordered-moved : (old new : CellOrder) (x y : Cell) (behind : Bool) → is_among old.entries x ≡ true
    → new ≡ record old { entries = cond behind old.entries (moved_behind old.entries x y) } → IsReordered old new
reordered-moved old new x y behind here is = subst (IsReordered old) (sym is) (either behind)
  where
    either : (b : Bool) → IsReordered old (record old { entries = cond b old.entries (moved_behind old.entries x y) })
    either true = reordered-none old
    either false = record { due = refl; cells = λ q. among-moved old.entries x y q here; once = distinct-moved old.entries x y }

-- ---- cells that are due again

few_again : (entries waiting : List Cell) → IsDistinct same_cell entries → length (entries_among entries waiting) ≤ length waiting
few_again entries waiting d = length-le_from_is_member same_cells (entries_among entries waiting) waiting (distinct-filter (is_among waiting) entries d)
    (λ q h. (and_parts (is_among entries q) (is_among waiting q) (sym (among-entries_among entries waiting q) ∙ h)).1)

-- they are no more than those that wait
pub few-due : (mid new : CellOrder) (waiting : List Cell) → IsDistinct same_cell mid.entries → new ≡ record mid { due = entries_among mid.entries waiting }
    → length new.due ≤ length waiting
few-due mid new waiting d is = subst (λ c. length c.due ≤ length waiting) (sym is) (few_again mid.entries waiting d)
