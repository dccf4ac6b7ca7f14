use Rattle.std.proofs.Common.{◌||◌, ap, refl, ◌∙◌}
use Rattle.cell_refs.specs.Cell.{is_among}
use Rattle.formula_parse.specs.Callees.{is_rtd}
use Rattle.formula_parse.specs.Tree.{has_rtd_call}
use Rattle.workbook.specs.Step.{formulas_where}
use Rattle.calc_book.proofs.BeginningStates.{ok-leads}
use Rattle.calc_book.proofs.NotingLaws.{callers-alike, noted}
use Rattle.calc_book.proofs.calc_books.CalcBook.note_rtd_callers.Goals as goal

pub returns-clause-ok : goal.returns-clause-ok
returns-clause-ok c s rest =
    ok-leads _ _ _
    (λ puts. noted c.args.self.now s c.note_all.new.changed (formulas_where s.book has_rtd_call)
    (λ q. puts q
    ∙ ap (λ b. b || is_among c.args.self.now.changed.keys q) (callers-alike has_rtd_call is_rtd (λ tree. refl) c.args.self.now s rest c.as_slice.result.now (c.as_slice.ensures.value ∙ c.in_ok-called.ensures) q))
    rest)
    c.note_all.ensures.ok
