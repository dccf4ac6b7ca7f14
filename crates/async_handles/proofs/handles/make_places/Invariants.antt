use Rattle.std.proofs.Common.{◌≡◌, ◌-◌, ◌≤◌, max, vec_capacity, vec_len}
use Rattle.async_handles.proofs.handles.make_places.Given as goal

abbrev pub invariant-loop-alloc : goal.invariant-loop-alloc
invariant-loop-alloc l =
    (vec_len l.initial.places ≤ vec_len l.places)
    × (vec_len l.places ≤ max (vec_len l.initial.places) l.count)
    × (vec_capacity l.places ≡ vec_capacity l.initial.places)

abbrev pub decreases-loop-alloc : goal.decreases-loop-alloc
decreases-loop-alloc l = l.count - vec_len l.places
