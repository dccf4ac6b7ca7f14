use Rattle.std.proofs.Common.{◌≡◌, ◌≤◌, ◌++◌, ℕ, nat_eq, vec_len}
use Rattle.std.specs.Map.{lookup}
use Rattle.indexmap.specs.IndexMap.{spare}
use Rattle.known_servers.proofs.news.News.sort_in.Given as goal

abbrev pub invariant-loop-id : goal.invariant-loop-id
invariant-loop-id l = record {
  same : (q : ℕ) → lookup (nat_eq q) (l.self-inside.given.items ++ l.self-inside.sorted.entries) ≡ lookup (nat_eq q) (l.fn.self.given ++ l.fn.self.sorted);
  room : vec_len l.self-inside.given ≤ spare l.self-inside.sorted;
}

abbrev pub decreases-loop-id : goal.decreases-loop-id
decreases-loop-id l = vec_len l.self-inside.given
