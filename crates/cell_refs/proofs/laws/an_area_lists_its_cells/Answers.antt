use Rattle.cell_refs.proofs.Listing.{count_cells, grid_cells, inside_listed, listed_in_order, listed_inside}
use Rattle.cell_refs.proofs.laws.an_area_lists_its_cells.Goals as goal

pub returns-clause-member : goal.returns-clause-member
returns-clause-member c = λ area cell. (listed_inside area cell, inside_listed area cell)

pub returns-clause-ordered : goal.returns-clause-ordered
returns-clause-ordered c = listed_in_order

pub returns-clause-count : goal.returns-clause-count
returns-clause-count c = count_cells

pub returns-clause-grid : goal.returns-clause-grid
returns-clause-grid c = grid_cells
