use Rattle.workbook.proofs.books.Book.set.Goals as goal

pub returns-then-exceeds_cells-clause-ordered : goal.returns-then-exceeds_cells-clause-ordered
returns-then-exceeds_cells-clause-ordered c = (c.exceeds_cells.ensures.ordered, c.exceeds_cells.ensures.ordered)

pub returns-then-exceeds_formulas-clause-ordered : goal.returns-then-exceeds_formulas-clause-ordered
returns-then-exceeds_formulas-clause-ordered c = (c.exceeds_cells.ensures.ordered, c.exceeds_cells.ensures.ordered)
