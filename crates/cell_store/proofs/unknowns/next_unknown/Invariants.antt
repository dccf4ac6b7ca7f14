use Rattle.std.proofs.Common.{◌≡◌}
use Rattle.std.specs.List.{filter}
use Rattle.cell_store.specs.Gathering.{is_behind}
use Rattle.cell_store.specs.Walking.{entries_from, steps_ahead, unknowns_inside}
use Rattle.cell_store.proofs.unknowns.next_unknown.Given as goal

-- all cells without a value are ahead
abbrev pub invariant-loop-from : goal.invariant-loop-from
invariant-loop-from l = unknowns_inside l.areas (entries_from l.from l.present.entries) ≡ unknowns_inside l.areas (filter (λ e. is_behind l.fn.after e.0) l.present.entries)

-- how many steps are ahead at most
abbrev pub decreases-loop-from : goal.decreases-loop-from
decreases-loop-from l = steps_ahead l.present.entries l.from
