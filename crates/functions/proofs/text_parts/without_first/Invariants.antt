use Rattle.std.proofs.Common.{◌≡◌, ◌-◌, drop}
use Rattle.std.specs.Str.{IsUtf8, chars, encode_utf8_all}
use Rattle.std.specs.Str.Iter.{chars_rest}
use Rattle.functions.specs.Texts.{without_first}
use Rattle.functions.proofs.text_parts.without_first.Given as goal

abbrev pub invariant-loop-skipped : goal.invariant-loop-skipped
invariant-loop-skipped l = record {
  utf8 : IsUtf8 (chars_rest l.rest);
  left : encode_utf8_all (drop (l.n - l._skipped) (chars (chars_rest l.rest))) ≡ without_first l.n l.text;
}
