use Rattle.std.proofs.Common.{◌||◌, ◌≤◌, ◌-◌, drop, take, sym, ap, ◌∙◌, arith}
use Rattle.cell_refs.specs.Cell.{is_among, same_cell}
use Rattle.topic_table.proofs.ReaderLaws.{reread-again, reread-kept, reread-running}
use Rattle.topic_table.proofs.readers.Readers.read.Goals as goal

pub push-requires : goal.push-requires
push-requires c = sym c.in-None.ensures.found

pub returns-then-place-self-clause-running : goal.returns-then-place-self-clause-running
returns-then-place-self-clause-running c q =
    let f = c.self.inside.forgotten in
    ap (λ l. is_among (drop (f - 1) l) q) c.swap.ensures.cells
    ∙ reread-running c.self.inside.cells c.args.cell c.in-Some.place c.in-Some.ensures.place f c.self.inside.kept c.if-place-self.true c.self.invariant.0 c.self.invariant.1 q
    ∙ ap (λ v. same_cell q c.args.cell || is_among v.running q) c.self.view_is

pub returns-then-place-self-clause-kept : goal.returns-then-place-self-clause-kept
returns-then-place-self-clause-kept c q =
    let f = c.self.inside.forgotten in
    let k = c.self.inside.kept in
    ap (λ l. is_among (take k l) q) c.swap.ensures.cells
    ∙ reread-kept c.self.inside.cells c.args.cell c.in-Some.place c.in-Some.ensures.place f k c.if-place-self.true c.self.invariant.0 c.self.invariant.1 q
    ∙ ap (λ v. is_among v.kept q) c.self.view_is

pub returns-else-place-self-clause-running : goal.returns-else-place-self-clause-running
returns-else-place-self-clause-running c q =
    let f = c.self.inside.forgotten in
    let behind : f ≤ c.in-Some.place = omega (arith, c.if-place-self.false) in
    sym (ap (λ v. is_among v.running q) c.self.view_is)
    ∙ reread-again c.self.inside.cells c.args.cell c.in-Some.place c.in-Some.ensures.place f behind q
    ∙ ap (λ v. same_cell q c.args.cell || is_among v.running q) c.self.view_is
