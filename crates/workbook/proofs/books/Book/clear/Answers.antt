use Rattle.std.proofs.Common.{ap, ◌∙◌, cond, None, arith, unwrap_or}
use Rattle.std.specs.Option.{option_map}
use Rattle.workbook.specs.Book.{formula_weight, formula_count, content_at}
use Rattle.cell_refs.specs.Cell.{same_cell}
use Rattle.workbook.proofs.Counts.{formula_count-remove}
use Rattle.workbook.proofs.books.Book.clear.Goals as goal

pub overflow_sub-self : goal.overflow_sub-self
overflow_sub-self c =
    let law = formula_count-remove c.self.inside.contents.entries c.args.cell in
    let before = ap (λ o. unwrap_or (option_map formula_weight o) 0) c.in-Some.ensures.value in
    omega (arith, law, before, c.formula_weight.ensures, c.self.invariant.0)

pub invariant_of-self : goal.invariant_of-self
invariant_of-self c =
    let law = formula_count-remove c.self.inside.contents.entries c.args.cell in
    let before = ap (λ o. unwrap_or (option_map formula_weight o) 0) c.in-Some.ensures.value in
    let after = ap formula_count c.in-Some.ensures.entries in (
      omega (arith, law, before, after, c.formula_weight.ensures, c.self.invariant.0),
      c.remove.ensures.ordered,
      omega (arith, c.in-Some.ensures.len, c.self.invariant.2),
      omega (arith, law, after, c.self.invariant.3),
    )

pub returns-in-Some-clause-contents : goal.returns-in-Some-clause-contents
returns-in-Some-clause-contents c q =
    c.in-Some.ensures.updates.0 q ∙ ap (λ s. cond (same_cell c.args.cell q) None (content_at s.contents q)) c.self.view_is
