use Rattle.std.proofs.Common.{◌+◌, ◌≡◌, length, is_some, ap, ◌∙◌, cond, Some, arith, unwrap_or}
use Rattle.std.specs.Option.{option_map}
use Rattle.workbook.specs.Book.{formula_weight, formula_count, content_at, exceeds_cells, exceeds_formulas}
use Rattle.cell_refs.specs.Cell.{same_cell}
use Rattle.workbook.proofs.Counts.{formula_weight-le, formula_count-insert, cells-within, formulas-within}
use Rattle.workbook.proofs.books.Book.put.Goals as goal

pub overflow_add-self : goal.overflow_add-self
overflow_add-self c = omega (arith, formula_weight-le c.args.content, c.formula_weight-more.ensures, c.self.invariant.0, c.self.invariant.3)

pub overflow_sub-self : goal.overflow_sub-self
overflow_sub-self c =
    let law = formula_count-insert c.self.inside.contents.entries c.args.cell c.args.content c.insert.ensures.was_ordered in
    let before = ap (λ o. unwrap_or (option_map formula_weight o) 0) c.in-Ok.ensures.old in
    omega (arith, law, before, c.weight_before-less.ensures, c.formula_weight-more.ensures, c.self.invariant.0)

pub invariant_of-self : goal.invariant_of-self
invariant_of-self c =
    let book = c.self.inside.contents.entries in
    let was = content_at book c.args.cell in
    let law = formula_count-insert book c.args.cell c.args.content c.insert.ensures.was_ordered in
    let before = ap (λ o. unwrap_or (option_map formula_weight o) 0) c.in-Ok.ensures.old in
    let after = ap formula_count c.in-Ok.ensures.entries in
    let more : length c.insert.new.self.entries ≡ length book + cond (is_some was) 0 1 = c.in-Ok.ensures.len ∙ ap (λ o. length book + cond (is_some o) 0 1) c.in-Ok.ensures.old in
    let counts = ap (λ n. n + unwrap_or (option_map formula_weight was) 0) after ∙ law in (
      omega (arith, law, before, after, c.weight_before-less.ensures, c.formula_weight-more.ensures, c.self.invariant.0),
      c.insert.ensures.ordered,
      cells-within was _ _ (ap (λ s. exceeds_cells s.contents c.args.cell) c.self.view_is ∙ c.requires.cells) c.self.invariant.2 more,
      formulas-within was c.args.content _ _ (ap (λ s. exceeds_formulas s.contents c.args.cell c.args.content) c.self.view_is ∙ c.requires.formulas) c.self.invariant.3 counts,
    )

pub returns-in-Ok-clause-contents : goal.returns-in-Ok-clause-contents
returns-in-Ok-clause-contents c q =
    c.in-Ok.ensures.updates.0 q ∙ ap (λ s. cond (same_cell c.args.cell q) (Some c.args.content) (content_at s.contents q)) c.self.view_is
