use Rattle.std.proofs.Common.{◌+◌, max, map, drop, ap, sym, ◌∙◌, arith}
use Rattle.cell_refs.specs.Written.{capitals}
use Rattle.cell_values.specs.declared.errors.ErrorKind.{ErrorKind}
use Rattle.cell_values.specs.declared.errors.ErrorKind.TheVariants as errors
use Rattle.cell_values.specs.Error.{error_word}
use Rattle.formula_parse.specs.Lexing.{all_errors, greatest, common_len}
use Rattle.formula_parse.proofs.CodeFacts.CodeWords.{greatest_more, max_is}
use Rattle.formula_parse.proofs.lexing.begun.error_begun.Goals as goal

pub loop-kind-preserved : goal.loop-kind-preserved
loop-kind-preserved c =
    let text = c.args.text.now in
    let f = λ (e : ErrorKind). common_len (error_word e) (capitals text) in
    let m = max_is c.loop-kind.begun c.common_len.result c.max-begun.result c.max-begun.ensures in
    let is = c.common_len.ensures.value ∙ ap (λ w. common_len w (capitals text)) (c.as_bytes.ensures.value ∙ c.word.ensures) in
    record {
      value = c.loop-kind.invariant.value ∙ (greatest_more f all_errors c.loop-kind.kind-index c.loop-kind.begun errors.Null c.loop-kind-test.true ∙ ap (λ n. max n (greatest (map f (drop (c.loop-kind.kind-index + 1) all_errors)))) (ap (max c.loop-kind.begun) (sym is) ∙ sym m));
      within = omega (arith, m);
    }
