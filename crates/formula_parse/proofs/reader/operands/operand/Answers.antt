use Rattle.std.proofs.Common.{arith}
use Rattle.formula_parse.proofs.Depths.{shallow_calls}
use Rattle.formula_parse.proofs.reader.operands.operand.Goals as goal

pub overflow_add-calls : goal.overflow_add-calls
overflow_add-calls c = omega (arith, shallow_calls c.args.frames.now c.requires.shallow)
