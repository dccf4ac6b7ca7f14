use Rattle.std.proofs.Common.{sym, ◌∙◌}
use Rattle.cell_refs.proofs.Numerals.{digits_are_text, text_shows, parsed}
use Rattle.cell_refs.proofs.reading.parse_digits.Goals as goal

pub returns-in_err-text : goal.returns-in_err-text
returns-in_err-text c = absurd (digits_are_text _ _ _ _ c.from_utf8.ensures.cases (sym c.ok.ensures.value ∙ c.in_err-text.was) c.requires.digits)

pub returns : goal.returns
returns c =
    let shown = text_shows _ (λ s. s.now) _ _ _ _ c.from_utf8.ensures.cases (sym c.ok.ensures.value ∙ c.in_ok-text.was) in
    parsed c.args.digits.now _ _ (rw shown at c.parse.ensures.value.0) c.requires.digits c.requires.some c.ok-2.ensures.value
