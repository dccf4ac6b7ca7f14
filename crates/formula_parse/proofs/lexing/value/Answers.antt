use Rattle.std.proofs.Common.{get_or, arith}
use Rattle.std.proofs.lemmas.Int.Digits.{digits_value_more}
use Rattle.formula_parse.proofs.CodeFacts.CodeDigits.{digit_at, from_digit}
use Rattle.formula_parse.proofs.lexing.value.Goals as goal

pub overflow_sub-byte : goal.overflow_sub-byte
overflow_sub-byte c = (from_digit _ (digit_at c.args.digits.now c.loop-byte.byte-index c.requires c.loop-byte-test.true)).0

pub loop-byte-preserved : goal.loop-byte-preserved
loop-byte-preserved c =
    let digit = from_digit (get_or c.args.digits.now c.loop-byte.byte-index 0) (digit_at c.args.digits.now c.loop-byte.byte-index c.requires c.loop-byte-test.true) in
    omega (arith, digit.1, digits_value_more 10 c.args.digits.now c.loop-byte.byte-index c.loop-byte-test.true)
