use Rattle.std.proofs.Common.{take}
use Rattle.book_sync.specs.Steps.{AreEmpty, PutsAmong}
use Rattle.book_sync.proofs.stale.empty_all.Given as goal

-- the cells so far have no value
abbrev pub invariant-loop-cell : goal.invariant-loop-cell
invariant-loop-cell l = record {
  store : PutsAmong l.cells l.fn.store l.store;
  empty : AreEmpty (take l.cell-index l.cells) l.store;
}
