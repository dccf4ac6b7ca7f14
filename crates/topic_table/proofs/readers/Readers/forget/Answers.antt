use Rattle.std.proofs.Common.{◌≡◌, ◌+◌, ◌≤◌, ◌<◌, ◌&&◌, not, drop, take, sym, ap, subst, ◌∙◌, false, arith}
use Rattle.std.specs.List.{IsDistinct}
use Rattle.cell_refs.specs.Cell.{is_among, same_cell}
use Rattle.topic_table.proofs.ReaderLaws.{forget_absent-running, forget_again-running, forget_kept-kept, forget_kept-running, forget-running}
use Rattle.topic_table.proofs.readers.Readers.forget.Goals as goal

pub returns-in_default-clause-running : goal.returns-in_default-clause-running
returns-in_default-clause-running c q =
    sym (ap (λ v. is_among v.running q) c.self.view_is)
    ∙ forget_absent-running c.self.inside.cells c.args.cell (sym c.in_default.ensures.found) c.self.inside.forgotten q
    ∙ ap (λ v. is_among v.running q && not (same_cell q c.args.cell)) c.self.view_is

pub returns-then-place-self-clause-running : goal.returns-then-place-self-clause-running
returns-then-place-self-clause-running c q =
    let f = c.self.inside.forgotten in
    let behind : f ≤ c.in-Some.place = omega (arith, c.if-place-self.true, c.self.invariant.0) in
    let x = c.swap_remove.result in
    ap (λ l. is_among (drop f l) q) c.swap_remove.ensures.cells
    ∙ forget-running c.self.inside.cells c.args.cell c.in-Some.place c.in-Some.ensures.place f x c.swap_remove.ensures.cell
    (subst (λ l. is_among l x ≡ false) c.swap_remove.ensures.cells c.swap_remove.ensures.gone) behind q
    ∙ ap (λ v. is_among v.running q && not (same_cell q c.args.cell)) c.self.view_is

pub returns-then-place-self-2-clause-running : goal.returns-then-place-self-2-clause-running
returns-then-place-self-2-clause-running c q =
    let f = c.self.inside.forgotten in
    ap (λ l. is_among (drop (f + 1) l) q) c.swap.ensures.cells
    ∙ forget_kept-running c.self.inside.cells c.args.cell c.in-Some.place c.in-Some.ensures.place f
    (subst (IsDistinct same_cell) c.swap.ensures.cells c.swap.ensures.once) c.if-place-self-2.true q
    ∙ ap (λ v. is_among v.running q && not (same_cell q c.args.cell)) c.self.view_is

pub returns-then-place-self-2-clause-kept : goal.returns-then-place-self-2-clause-kept
returns-then-place-self-2-clause-kept c q =
    let f = c.self.inside.forgotten in
    let k = c.self.inside.kept in
    let before : c.in-Some.place < k = omega (arith, c.if-place-self.false) in
    ap (λ l. is_among (take k l) q) c.swap.ensures.cells
    ∙ forget_kept-kept c.self.inside.cells c.args.cell c.in-Some.place c.in-Some.ensures.place f k c.if-place-self-2.true before c.self.invariant.1 q
    ∙ ap (λ v. is_among v.kept q) c.self.view_is

pub returns-else-place-self-2-clause-running : goal.returns-else-place-self-2-clause-running
returns-else-place-self-2-clause-running c q =
    let f = c.self.inside.forgotten in
    let before : c.in-Some.place < f = omega (arith, c.if-place-self-2.false) in
    sym (ap (λ v. is_among v.running q) c.self.view_is)
    ∙ forget_again-running c.self.inside.cells c.args.cell c.in-Some.place c.in-Some.ensures.place c.in-Some.ensures.once f before q
    ∙ ap (λ v. is_among v.running q && not (same_cell q c.args.cell)) c.self.view_is
