use Rattle.std.proofs.Common.{◌≡◌, ℕ, false, Option, take}
use Rattle.std.specs.List.{list_any}
use Rattle.topic_table.specs.declared.places.Row.{Row}
use Rattle.topic_table.specs.Rows.{is_since_place}
use Rattle.topic_table.proofs.rows.since_place.Given as goal

-- none of the rows so far is the one that is sought
abbrev pub invariant-loop-i : goal.invariant-loop-i
invariant-loop-i l = list_any (λ (e : ℕ × Option Row). is_since_place l.round e.1) (take l.i l.rows.entries) ≡ false
