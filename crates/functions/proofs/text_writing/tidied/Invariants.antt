use Rattle.std.proofs.Common.{◌≡◌, ◌<◌, ◌++◌, length, true}
use Rattle.std.specs.Str.{IsUtf8, chars, encode_utf8_all}
use Rattle.std.specs.Str.Iter.{chars_rest}
use Rattle.std.specs.String.{string_bytes}
use Rattle.functions.specs.Texts.{single_spacing_of}
use Rattle.functions.proofs.TrimFacts.{to_come}
use Rattle.functions.proofs.text_writing.tidied.Given as goal

abbrev pub invariant-loop-c : goal.invariant-loop-c
invariant-loop-c l = record {
  utf8 : IsUtf8 (chars_rest l.c-iterator);
  some : l.is_spaced ≡ true → 0 < length (string_bytes l.tidy);
  whole : string_bytes l.tidy ++ encode_utf8_all (to_come (string_bytes l.tidy) l.is_spaced (chars (chars_rest l.c-iterator))) ≡ encode_utf8_all (single_spacing_of (chars l.text));
}
