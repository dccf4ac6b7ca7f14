use Rattle.std.proofs.Common.{rules, ◌≡◌, ◌≤◌, [], ◌∷◌, length, ap, sym, subst, ◌∙◌, arith}
use Rattle.std.specs.Str.{chars}
use Rattle.std.proofs.lemmas.List.Elements.{All-cons, All-nil}
use Rattle.std.proofs.lemmas.Str.{chars_from_encodes}
use Rattle.workbook.specs.InForm.{AreStringsInForm}
use Rattle.host_core_tests.proofs.samples.publish_command.Goals as goal

pub returns : goal.returns
returns c =
    let count : c.count.result ≡ length (chars c.args.string.now) = search (rules, chars_from_encodes) in
    let short : length (chars c.args.string.now) ≤ 255 = omega (arith, count, c.if-count-gt255.false) in
    let one : c.in_ok-strings.strings ≡ c.args.string.now ∷ [] = c.in_ok-strings.ensures ∙ c.in_ok-vec.ensures.items ∙ ap (λ text. text ∷ []) c.in_ok-text.ensures.text in (
      subst AreStringsInForm (sym one)
          (omega arith, omega arith, All-cons (λ string. length (chars string) ≤ 255) c.args.string.now [] short (All-nil (λ string. length (chars string) ≤ 255))),
      (λ blank. cc (blank)),
    )
