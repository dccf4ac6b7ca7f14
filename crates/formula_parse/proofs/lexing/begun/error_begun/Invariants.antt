use Rattle.std.proofs.Common.{◌≡◌, ◌≤◌, max, map, drop, length}
use Rattle.cell_refs.specs.Written.{capitals}
use Rattle.cell_values.specs.Error.{error_word}
use Rattle.formula_parse.specs.Lexing.{greatest, common_len, error_begun}
use Rattle.formula_parse.proofs.lexing.begun.error_begun.Given as goal

abbrev pub invariant-loop-kind : goal.invariant-loop-kind
invariant-loop-kind l = record {
  value : error_begun l.text ≡ max l.begun (greatest (map (λ e. common_len (error_word e) (capitals l.text)) (drop l.kind-index l.kind-items)));
  within : l.begun ≤ length l.text;
}
