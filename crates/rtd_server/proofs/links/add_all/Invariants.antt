use Rattle.std.proofs.Common.{◌≡◌, ◌≤◌, ◌+◌, ℕ, ◌||◌, length, take}
use Rattle.std.specs.Prelude.{nat_eq}
use Rattle.std.specs.List.{list_any}
use Rattle.indexmap.specs.IndexSet.{spare}
use Rattle.rtd_server.proofs.links.add_all.Given as goal

-- the ids so far are put in, and there is room for the others
abbrev pub invariant-loop-id : goal.invariant-loop-id
invariant-loop-id l = (length l.ids ≤ spare l.due + l.id-index)
    × ((q : ℕ) → list_any (nat_eq q) l.due.keys ≡ (list_any (nat_eq q) (take l.id-index l.ids) || list_any (nat_eq q) l.fn.due.keys))
