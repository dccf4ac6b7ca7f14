use Rattle.std.proofs.Common.{sym, ◌∙◌}
use Rattle.formula_parse.proofs.CalleeLaws.{function_is_callee}
use Rattle.formula_parse.proofs.callees.Callee.named.Goals as goal

pub returns-in-Some : goal.returns-in-Some
returns-in-Some c = function_is_callee c.args.name.now _ (sym c.of.ensures ∙ c.in-Some.is)
