use Rattle.std.proofs.Common.{◌≡◌, map, take}
use Rattle.calc_book.proofs.tests.readers_of.Given as goal

-- the cells of the readings so far
abbrev pub invariant-loop-reading : goal.invariant-loop-reading
invariant-loop-reading l = l.readers.items ≡ map (λ e. e.1) (take l.reading-index l.readings)
