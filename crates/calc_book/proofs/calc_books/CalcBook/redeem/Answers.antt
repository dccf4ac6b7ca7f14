use Rattle.std.proofs.Common.{◌≡◌, true, ◌+◌, cond, ap, ◌∙◌}
use Rattle.async_handles.specs.OpenCalls.{OpenCalls, calls_without, is_live}
use Rattle.calc_book.proofs.Redeeming.{live-called, redeemed-live, still-reads, still-runs}
use Rattle.calc_book.proofs.calc_books.CalcBook.redeem.Goals as goal

pub returns-clause-ended : goal.returns-clause-ended
returns-clause-ended c earlier later round s _ differ running =
    let old = c.args.self.now.work.calls in
    let handle = c.args.handle.now in
    let live : is_live old.calls handle ≡ true = redeemed-live _ _ c.redeem.result c.is_none.result c.redeem.ensures.redeemed c.is_none.ensures c.if-is_none.false in
    let is : c.redeem.new.self ≡ record old { calls = calls_without old.calls handle.cell; spare = old.spare + 1 } =
    c.redeem.ensures.ended ∙ ap (λ b. cond b (record old { calls = calls_without old.calls handle.cell; spare = old.spare + 1 }) old) live in
    still-runs earlier later handle.cell differ round c.args.self.now s running (live-called old.calls handle live)
    (record { waiting = c.push_reserved.new.self; calls = c.redeem.new.self })
    c.push_reserved.ensures.items (ap (λ (o : OpenCalls). o.calls) is) (ap (λ (o : OpenCalls). o.session) is) (ap (λ (o : OpenCalls). o.spare) is)
    c.push_reserved.ensures.capacity

pub returns-clause-reads : goal.returns-clause-reads
returns-clause-reads c earlier later round s _ differ running old new forgets reads =
    let live : is_live c.args.self.now.work.calls.calls c.args.handle.now ≡ true =
    redeemed-live _ _ c.redeem.result c.is_none.result c.redeem.ensures.redeemed c.is_none.ensures c.if-is_none.false in
    still-reads earlier later c.args.handle.now.cell differ round c.args.self.now s running (live-called c.args.self.now.work.calls.calls c.args.handle.now live) old new forgets reads
