-- What a hasher is fed of a cell, alike for cells that are the same.
use Rattle.std.specs.Prelude.{◌≡◌, ℕ, true, refl, List, ◌++◌, IsTrue}
use Rattle.std.specs.declared.cmp.Ordering.{Ordering}
use Rattle.std.specs.declared.cmp.Ordering.TheVariants.{Less, Equal, Greater}
use Rattle.std.specs.Hash as fed
use Rattle.std.specs.Ordering.{nat_cmp, ordering_then, is_eq}
use Rattle.std.proofs.Common.{ap}
use Rattle.std.proofs.lemmas.Map.Lookups.{CmpEqualImpliesEq, exact_pairs, exact_unsigned}
use Rattle.cell_refs.specs.declared.grid.Cell.{Cell}
use Rattle.cell_refs.specs.Cell.{cell_cmp, same_cell}

-- what a hasher is fed of a cell
abbrev pub cell_input : Cell → List (List ℕ)
cell_input cell = fed.u8 cell.sheet ++ fed.u32 cell.row ++ fed.u16 cell.col

-- cells that compare alike are one
pub exact_cells : CmpEqualImpliesEq cell_cmp
exact_cells a b h =
    ap (λ (p : ℕ × (ℕ × ℕ)). record { sheet = p.0; row = p.1.0; col = p.1.1 })
    (exact_pairs nat_cmp (λ (p q : ℕ × ℕ). ordering_then (nat_cmp p.0 q.0) (nat_cmp p.1 q.1)) exact_unsigned (exact_pairs nat_cmp nat_cmp exact_unsigned exact_unsigned)
    (a.sheet, (a.row, a.col)) (b.sheet, (b.row, b.col)) h)

-- an order that passes as equal is Equal
is_equal : (o : Ordering) → is_eq o ≡ true → o ≡ Equal
is_equal Less h = cc
is_equal Equal h = refl
is_equal Greater h = cc

-- cells that are the same are one
pub same_cell_is : (a b : Cell) → same_cell a b ≡ true → a ≡ b
same_cell_is a b same = exact_cells a b (is_equal (cell_cmp a b) same)

-- the same cells are hashed alike
pub same_cell_input : (a b : Cell) → IsTrue (same_cell a b) → cell_input a ≡ cell_input b
same_cell_input a b h = ap cell_input (same_cell_is a b h)
