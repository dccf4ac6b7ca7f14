use Rattle.std.proofs.Common.{◌≡◌, [], length, sym, ap, subst, arith}
use Rattle.host_core.specs.Standing.{Stands, terms_with}
use Rattle.workbook.specs.History.{state_of}
use Rattle.host_core.proofs.hosts.Host.open.Goals as goal

pub invariant_of-result : goal.invariant_of-result
invariant_of-result g c =
    let book = c.in_ok-book.ensures in
    let none = ap length book.entries in
    let room = book.log_room in (
      c.requires.session,
      omega (arith, none),
      omega (arith, none, room),
      omega (arith, none, book.round),
      omega (arith, none, book.room),
      c.requires.steady,
      subst (λ entries. Stands g.M.Server.RtdServer.state (terms_with g.F.AddIns.answer c.args.session c.args.limit) c.in_ok-book.book (state_of (terms_with g.F.AddIns.answer c.args.session c.args.limit) entries))
          (sym book.entries) (book.stands g.F.AddIns.answer c.args.limit),
    )
