use Rattle.std.proofs.Common.{◌≡◌, ◌≤◌, ◌+◌, drop}
use Rattle.formula_parse.specs.Lexing.{row_begun}
use Rattle.formula_parse.proofs.lexing.begun.row_begun.Given as goal

abbrev pub invariant-loop-len : goal.invariant-loop-len
invariant-loop-len l = (l.row ≤ 1048576) × (row_begun 0 l.text ≡ l.len + row_begun l.row (drop l.len l.text))
