-- Only a cell is level with itself.
use Rattle.std.specs.Cmp.{IsEquivalence, eq_by_cmp_equiv}
use Rattle.cell_refs.specs.Cell.{same_cell}
pub use Rattle.cell_refs.specs.Cell.{cells_total}
pub use Rattle.cell_refs.specs.CellInput.{exact_cells, same_cell_is}

-- cells are the same as an equivalence is
pub same_cells : IsEquivalence same_cell
same_cells = eq_by_cmp_equiv cells_total
