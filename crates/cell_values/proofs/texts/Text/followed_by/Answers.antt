use Rattle.cell_values.proofs.TextFacts.{text_of_both}
use Rattle.cell_values.proofs.texts.Text.followed_by.Goals as goal

pub invariant_of-result : goal.invariant_of-result
invariant_of-result c =
    rw c.in_ok-shared.ensures.ok
    (text_of_both c.as_str.result.now c.as_str-2.result.now _ c.as_str-3.result.now c.count_characters.result
    (rw c.as_str.ensures.text c.as_str.ensures.valid) (rw c.as_str-2.ensures.text c.as_str-2.ensures.valid)
    c.in_ok-both.ensures c.as_str-3.ensures.value c.count_characters.ensures c.if-count_characters-gt-LONGEST_TEXT.false)
