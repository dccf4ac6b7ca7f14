use Rattle.std.proofs.Common.{◌≡◌, ℕ, ◌||◌, nat_eq, take}
use Rattle.std.specs.Prelude.{◌&&◌}
use Rattle.std.specs.List.{list_any}
use Rattle.std.specs.Map.{keys_of}
use Rattle.rtd_topics.specs.Parts.{differs}
use Rattle.rtd_topics.proofs.pulls.note_changed.Given as goal

abbrev pub invariant-loop-place : goal.invariant-loop-place
invariant-loop-place g l = (q : ℕ) → list_any (nat_eq q) l.ids.keys
    ≡ ((list_any (nat_eq q) (take l.place (keys_of l.known.news.sorted)) && differs l.known.news.sorted l.table.topics q) || list_any (nat_eq q) l.fn.ids.keys)
