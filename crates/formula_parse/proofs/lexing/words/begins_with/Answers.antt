use Rattle.std.proofs.Common.{eqb, length, ap, ◌∙◌}
use Rattle.cell_refs.specs.Written.{capitals}
use Rattle.formula_parse.proofs.CodeFacts.CodeWords.{begins_by_len}
use Rattle.formula_parse.proofs.lexing.words.begins_with.Goals as goal

pub returns : goal.returns
returns c = ap (λ n. eqb n (length c.args.word.now)) c.common_len.ensures.value ∙ begins_by_len c.args.word.now (capitals c.args.text.now)
