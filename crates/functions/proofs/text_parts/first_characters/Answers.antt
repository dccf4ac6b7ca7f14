use Rattle.std.proofs.Common.{◌∙◌}
use Rattle.functions.proofs.CharacterFacts.{cut_at}
use Rattle.functions.proofs.text_parts.first_characters.Goals as goal

pub overflow_sub-text : goal.overflow_sub-text
overflow_sub-text c = (cut_at c.args.n c.args.text.now c.without_first-rest.result.now c.utf8.text c.without_first-rest.utf8 c.without_first-rest.ensures).fits

pub range-requires-clause-end_boundary : goal.range-requires-clause-end_boundary
range-requires-clause-end_boundary c =
    (cut_at c.args.n c.args.text.now c.without_first-rest.result.now c.utf8.text c.without_first-rest.utf8 c.without_first-rest.ensures).boundary

pub returns : goal.returns
returns c =
    c.range.ensures.value ∙
    (cut_at c.args.n c.args.text.now c.without_first-rest.result.now c.utf8.text c.without_first-rest.utf8 c.without_first-rest.ensures).front
