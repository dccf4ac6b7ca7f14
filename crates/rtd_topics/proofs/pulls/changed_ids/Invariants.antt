use Rattle.std.proofs.Common.{◌≡◌, ℕ, nat_eq, take}
use Rattle.std.specs.List.{list_any}
use Rattle.known_servers.specs.Server.{ServerParts}
use Rattle.rtd_topics.specs.Parts.{is_news_of_one}
use Rattle.rtd_topics.proofs.pulls.changed_ids.Given as goal

abbrev pub invariant-loop-known : goal.invariant-loop-known
invariant-loop-known g l = (q : ℕ) → list_any (nat_eq q) l.ids.keys ≡ list_any (λ (k : ServerParts g.row.S.Denot). is_news_of_one k l.table.topics q) (take l.known-index l.servers)
