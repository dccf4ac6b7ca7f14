use Rattle.std.proofs.Common.{◌≡◌, not, take}
use Rattle.std.specs.List.{filter}
use Rattle.cell_refs.specs.Cell.{is_among}
use Rattle.calc_book.proofs.tests.kept.Given as goal

-- of the readings so far those of other cells
abbrev pub invariant-loop-reading : goal.invariant-loop-reading
invariant-loop-reading l = l.kept.items ≡ filter (λ e. not (is_among l.forgotten e.1)) (take l.reading-index l.readings)
