use Rattle.std.proofs.Common.{◌≡◌, ◌≤◌, ◌+◌, drop}
use Rattle.formula_parse.specs.Lexing.{column_begun}
use Rattle.formula_parse.proofs.lexing.begun.column_begun.Given as goal

abbrev pub invariant-loop-len : goal.invariant-loop-len
invariant-loop-len l = (l.column ≤ 16384) × (column_begun 0 l.text ≡ l.len + column_begun l.column (drop l.len l.text))
