use Rattle.std.proofs.Common.{arith, ◌∙◌}
use Rattle.std.proofs.lemmas.Str.{IsUtf8-past_char}
use Rattle.functions.proofs.CharacterFacts.{walk_step, walk_end, walk_over}
use Rattle.functions.proofs.text_parts.without_first.Goals as goal

pub returns-in_default : goal.returns-in_default
returns-in_default c = walk_end _ _ _ (c.in_default.ensures.steps).0.0 c.loop-skipped.invariant.left

pub loop-skipped-preserved : goal.loop-skipped-preserved
loop-skipped-preserved c = record {
  utf8 = IsUtf8-past_char _ _ _ c.loop-skipped.invariant.utf8 (c.in-Some.ensures.steps).0;
  left = walk_step _ _ _ _ _ _ c.loop-skipped-test.true c.loop-skipped.invariant.utf8 (c.in-Some.ensures.steps).0 c.loop-skipped.invariant.left;
}

pub returns : goal.returns
returns c = c.as_str.ensures ∙ walk_over _ _ _ _ (omega arith) c.loop-skipped.invariant.utf8 c.loop-skipped.invariant.left
