use Rattle.std.proofs.Common.{◌≡◌, ◌++◌}
use Rattle.cell_store.specs.Walking.{entries_from, entries_inside, steps_ahead, with_values}
use Rattle.cell_store.proofs.gathering.gather.Given as goal

-- what is gathered and what is ahead are all that lies in the areas
abbrev pub invariant-loop-from : goal.invariant-loop-from
invariant-loop-from l = with_values l.entries.items ++ entries_inside l.areas (entries_from l.from l.present.entries) ≡ entries_inside l.areas l.present.entries

-- how many steps are ahead at most
abbrev pub decreases-loop-from : goal.decreases-loop-from
decreases-loop-from l = steps_ahead l.present.entries l.from
