use Rattle.std.proofs.Common.{◌≡◌, ◌+◌, drop}
use Rattle.cell_refs.specs.Written.{capitals}
use Rattle.formula_parse.specs.Lexing.{common_len}
use Rattle.formula_parse.proofs.lexing.words.common_len.Given as goal

abbrev pub invariant-loop-place : goal.invariant-loop-place
invariant-loop-place l = common_len l.word (capitals l.text) ≡ l.place + common_len (drop l.place l.word) (drop l.place (capitals l.text))
