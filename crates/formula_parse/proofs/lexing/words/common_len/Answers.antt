use Rattle.std.proofs.Common.{arith}
use Rattle.formula_parse.proofs.CodeFacts.CodeWords.{common_on, common_stop, common_end}
use Rattle.formula_parse.proofs.lexing.words.common_len.Goals as goal

pub returns-then-word-place-clause-value : goal.returns-then-word-place-clause-value
returns-then-word-place-clause-value c =
    omega (arith, common_stop c.args.word.now c.args.text.now c.loop-place.place _ (omega arith) (omega arith) c.to_ascii_uppercase.ensures.value c.if-word-place.true)

pub loop-place-preserved : goal.loop-place-preserved
loop-place-preserved c =
    omega (arith, common_on c.args.word.now c.args.text.now c.loop-place.place _ (omega arith) (omega arith) c.to_ascii_uppercase.ensures.value c.if-word-place.false)

pub returns-clause-value : goal.returns-clause-value
returns-clause-value c = omega (arith, common_end c.args.word.now c.args.text.now c.loop-place.place (omega arith))
