use Rattle.std.proofs.Common.{◌≡◌, nat_eq, length}
use Rattle.std.specs.Map.{lookup}
use Rattle.rtd_topics.specs.Parts.{KeepsReadings, topics_taken}
use Rattle.rtd_topics.proofs.pulls.take_news.Given as goal

abbrev pub invariant-loop-id : goal.invariant-loop-id
invariant-loop-id g l = record {
  name : l.known.name ≡ l.fn.known.name;
  server : l.known.server ≡ l.fn.known.server;
  given : l.known.news.given ≡ l.fn.known.news.given;
  topics : topics_taken (λ q. lookup (nat_eq q) l.known.news.sorted) l.table.topics ≡ topics_taken (λ q. lookup (nat_eq q) l.fn.known.news.sorted) l.fn.table.topics;
  others : KeepsReadings l.fn.table l.table;
}

abbrev pub decreases-loop-id : goal.decreases-loop-id
decreases-loop-id g l = length l.known.news.sorted
