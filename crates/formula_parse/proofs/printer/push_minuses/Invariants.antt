use Rattle.std.proofs.Common.{◌≡◌, ◌++◌, replicate}
use Rattle.formula_parse.proofs.printer.push_minuses.Given as goal

abbrev pub invariant-loop : goal.invariant-loop
invariant-loop l = l.out.items ≡ l.fn.out.items ++ replicate l.counter 45
