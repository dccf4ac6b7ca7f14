use Rattle.std.proofs.Common.{sym, ◌∙◌, arith}
use Rattle.cell_values.proofs.TextFacts.{text_is}
use Rattle.cell_values.proofs.texts.Text.new.Goals as goal

pub invariant_of-result : goal.invariant_of-result
invariant_of-result c = rw c.in-Ok.ensures.ok (text_is c.args.s.now c.utf8.s (omega arith) (rw c.as_bytes.ensures.value at (sym c.first_control.ensures ∙ c.in_default.is)))

pub returns-in-Ok-clause-ok : goal.returns-in-Ok-clause-ok
returns-in-Ok-clause-ok c = text_is c.args.s.now c.utf8.s (omega arith) (rw c.as_bytes.ensures.value at (sym c.first_control.ensures ∙ c.in_default.is))
