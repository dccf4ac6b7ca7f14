use Rattle.std.proofs.Common.{◌≡◌, ◌++◌, ℕ, subst}
use Rattle.std.proofs.lemmas.Str.{IsUtf8-past_char}
use Rattle.std.specs.Str.Iter.{chars_rest}
use Rattle.functions.proofs.TrimFacts.{asked, space_step, other_step, end_step}
use Rattle.functions.proofs.text_writing.tidied.Goals as goal
use lib.Utf8.{encode}

pub loop-c-preserved-then-c-eq32 : goal.loop-c-preserved-then-c-eq32
loop-c-preserved-then-c-eq32 c = record {
  utf8 = IsUtf8-past_char _ _ _ c.loop-c.invariant.utf8 (c.in-Some.ensures.steps).0;
  some = (asked _ _ _ c.as_str.ensures.value c.is_empty-is_spaced.ensures).some;
  whole = space_step _ _ _ _ _ _ c.loop-c.invariant.utf8 (subst (λ (k : ℕ). chars_rest c.loop-c.c-iterator ≡ encode k ++ chars_rest c.next.new.self) c.if-c-eq32.true (c.in-Some.ensures.steps).0) (asked _ _ _ c.as_str.ensures.value c.is_empty-is_spaced.ensures).wanted c.loop-c.invariant.whole;
}

pub loop-c-preserved : goal.loop-c-preserved
loop-c-preserved c = record {
  utf8 = IsUtf8-past_char _ _ _ c.loop-c.invariant.utf8 (c.in-Some.ensures.steps).0;
  some = λ e. absurd (cc);
  whole = other_step _ _ _ _ _ _ _ c.if-c-eq32.false c.loop-c.invariant.utf8 (c.in-Some.ensures.steps).0 c.loop-c.invariant.some c.in_ok-push_spaced.ensures c.loop-c.invariant.whole;
}

pub returns : goal.returns
returns c = end_step _ _ _ _ (c.in-None.ensures.steps).0.0 c.loop-c.invariant.whole
