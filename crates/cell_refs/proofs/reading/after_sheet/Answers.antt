use Rattle.std.proofs.Common.{refl}
use Rattle.cell_refs.proofs.SheetWord.{sheet_word, no_sheet_word, no_sheet_room}
use Rattle.cell_refs.proofs.reading.after_sheet.Goals as goal
use Rattle.cell_refs.proofs.reading.after_sheet.Goals.{in_default-via-in-Some+else-eq_ignore_ascii_case, in_default-via-in_default}

pub returns-in-Some-clause-value : goal.returns-in-Some-clause-value
returns-in-Some-clause-value c =
    sheet_word _ _ _ c.in-Some.ensures.cases.1 c.in-Some.ensures.cases.2 (c.if-eq_ignore_ascii_case.ensures.test.0 refl)

pub returns-in_default-clause-value : goal.returns-in_default-clause-value
returns-in_default-clause-value c =
    elim c.in_default.branch [
      | in_default-via-in-Some+else-eq_ignore_ascii_case w ↦ no_sheet_word _ _ w.in-Some.ensures.cases.1 (λ same. let equal = w.if-eq_ignore_ascii_case.ensures.test.1 same in cc)
      | in_default-via-in_default w ↦ no_sheet_room c.args.text.now w.in_default.ensures.cases
    ]
