use Rattle.std.proofs.Common.{◌≡◌, false, drop, Ok}
use Rattle.std.specs.Char.{is_ascii_control}
use Rattle.std.specs.List.{list_any}
use Rattle.std.specs.String.{string_bytes}
use Rattle.functions.specs.Texts.{all_texts, before_others}
use Rattle.functions.proofs.text_search.joined.Given as goal

abbrev pub invariant-loop-arg : goal.invariant-loop-arg
invariant-loop-arg l = record {
  texts : all_texts l.args ≡ before_others (Ok (string_bytes l.all)) (all_texts (drop l.arg-index l.args));
  plain : list_any is_ascii_control (string_bytes l.all) ≡ false;
}
