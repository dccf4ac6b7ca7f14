use Rattle.std.proofs.Common.{◌≡◌, ◌≤◌, length, take}
use Rattle.std.specs.Hash as fed
use Rattle.std.specs.List.{flat_map, fold}
use Rattle.topic_table.proofs.topic_keys.TopicKeyHash.hash.Given as goal

-- the server and the strings so far are fed
abbrev pub invariant-loop-i : goal.invariant-loop-i
invariant-loop-i g l = (l.i ≤ length l.strings) × (l.state ≡ fold g.H.Hasher.write l.initial.state (flat_map fed.str (take l.i l.strings)))
