use Rattle.cell_refs.proofs.Capitals.{number_found, number_none, cut_digits}
use Rattle.std.proofs.Common.{arith}
use Rattle.cell_refs.proofs.reading.number_of.Goals as goal

pub value_of-requires : goal.value_of-requires
value_of-requires c = cut_digits _ _ _ c.digits_len.ensures c.split_at.ensures.front

pub returns-in_err-number-clause-value : goal.returns-in_err-number-clause-value
returns-in_err-number-clause-value c =
    rw c.from_residual.ensures (number_none _ _ _ _ _ c.digits_len.ensures c.split_at.ensures.front c.split_at.ensures.back (λ some small. c.in_err-number.ensures (some, omega (arith, c.ranges.limit))))

pub returns-then-number-limit-clause-value : goal.returns-then-number-limit-clause-value
returns-then-number-limit-clause-value c =
    number_found _ _ _ _ _ _ c.digits_len.ensures c.split_at.ensures.front c.split_at.ensures.back c.in_ok-number.ensures.0.0 c.in_ok-number.ensures.1 (omega arith)

pub returns-else-number-limit-clause-value : goal.returns-else-number-limit-clause-value
returns-else-number-limit-clause-value c =
    number_none _ _ _ _ _ c.digits_len.ensures c.split_at.ensures.front c.split_at.ensures.back (λ some small. omega (arith, c.in_ok-number.ensures.1))
