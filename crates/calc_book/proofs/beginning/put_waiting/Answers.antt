use Rattle.std.proofs.Common.{ap, ◌∙◌}
use Rattle.cell_chain.specs.CellOrder.{CellOrder}
use Rattle.calc_book.proofs.BeginningLists.{none-among, none-once}
use Rattle.calc_book.proofs.beginning.put_waiting.Goals as goal

pub rewind-requires-clause-once : goal.rewind-requires-clause-once
rewind-requires-clause-once c = none-once

pub returns-clause-chain : goal.returns-clause-chain
returns-clause-chain c =
    record {
      entries = ap (λ (chain : CellOrder). chain.entries) c.rewind.ensures.due;
      due = ap (λ (chain : CellOrder). chain.due) c.rewind.ensures.due ∙ none-among c.args.chain.now.entries;
      once = c.rewind.ensures.chain.once;
    }
