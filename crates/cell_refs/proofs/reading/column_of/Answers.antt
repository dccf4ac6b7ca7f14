use Rattle.cell_refs.proofs.Capitals.{column_found, column_none}
use Rattle.std.proofs.Common.{arith}
use Rattle.cell_refs.proofs.reading.column_of.Goals as goal

pub returns-in_err-column-clause-value : goal.returns-in_err-column-clause-value
returns-in_err-column-clause-value c =
    rw c.from_residual.ensures (column_none _ _ _ _ c.letters_len.ensures c.split_at.ensures.front c.split_at.ensures.back (λ few small. c.in_err-column.ensures few))

pub returns-then-column-from-clause-value : goal.returns-then-column-from-clause-value
returns-then-column-from-clause-value c =
    column_found _ _ _ _ _ c.letters_len.ensures c.split_at.ensures.front c.split_at.ensures.back c.in_ok-column.ensures.0 c.in_ok-column.ensures.1 (omega arith)

pub returns-else-column-from-clause-value : goal.returns-else-column-from-clause-value
returns-else-column-from-clause-value c =
    column_none _ _ _ _ c.letters_len.ensures c.split_at.ensures.front c.split_at.ensures.back (λ few small. omega (arith, c.in_ok-column.ensures.1))
