use Rattle.std.proofs.Common.{◌≡◌, ◌≤◌, ◌<◌, ℕ, false}
use Rattle.std.specs.Str.{IsUtf8}
use Rattle.std.specs.Str.Iter.{chars_rest}
use Rattle.functions.specs.Texts.{without_first, stands_behind}
use Rattle.functions.proofs.text_search.found_behind.Given as goal

abbrev pub invariant-loop-before : goal.invariant-loop-before
invariant-loop-before l = record {
  utf8 : IsUtf8 (chars_rest l.rest);
  here : chars_rest l.rest ≡ without_first l.before l.text;
  none : (k : ℕ) → l.least ≤ k → k < l.before → stands_behind l.pattern l.text k ≡ false;
}
