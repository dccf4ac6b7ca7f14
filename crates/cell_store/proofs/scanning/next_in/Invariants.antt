use Rattle.std.proofs.Common.{take}
use Rattle.cell_store.specs.Scanning.{IsNext}
use Rattle.cell_store.proofs.scanning.next_in.Given as goal

-- of the areas so far it is the next cell
abbrev pub invariant-loop-area : goal.invariant-loop-area
invariant-loop-area l = IsNext (take l.area-index l.areas) l.cell l.next
