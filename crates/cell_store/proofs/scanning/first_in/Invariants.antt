use Rattle.std.proofs.Common.{take}
use Rattle.cell_store.specs.Scanning.{IsFirst}
use Rattle.cell_store.proofs.scanning.first_in.Given as goal

-- no cell of the areas so far stands before the first one
abbrev pub invariant-loop-area : goal.invariant-loop-area
invariant-loop-area l = IsFirst (take l.area-index l.areas) l.first
