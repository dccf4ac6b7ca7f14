use Rattle.std.proofs.Common.{◌≡◌, ap, sym, ◌∙◌}
use Rattle.calc_chain.specs.Chain.{entries_among, has}
use Rattle.calc_chain.proofs.ChainLaws.{and_second}
use Rattle.calc_chain.proofs.DueLaws.{due-all}
use Rattle.calc_chain.proofs.ListLaws.{has-filter}
use Rattle.calc_chain.proofs.due.DueList.fill.Goals as goal

pub returns-clause-due : goal.returns-clause-due
returns-clause-due c =
    let numbers = c.put_in_order.new.numbers.items in
    let sorted : numbers ≡ entries_among c.args.order.now c.args.due.now = c.put_in_order.ensures.items ∙ ap (entries_among c.args.order.now) c.fill_reserved.ensures.items in
    due-all c.raise.new.flags.items numbers
    (λ x t. c.raise.ensures.raised x (and_second (has c.args.order.now x) (has c.args.due.now x) (sym (has-filter (has c.args.due.now) c.args.order.now x) ∙ ap (λ ys. has ys x) (sym sorted) ∙ t)))
    ∙ sorted
