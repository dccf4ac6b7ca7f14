use Rattle.std.proofs.Common.{◌≡◌, take}
use Rattle.std.specs.Prelude.{map}
use Rattle.rtd_server.specs.Feed.{server_of}
use Rattle.rtd_server.specs.Server.{news_of}
use Rattle.rtd_server.proofs.feeds.Feed.news_of_each.Given as goal

-- the news so far
abbrev pub invariant-loop-id : goal.invariant-loop-id
invariant-loop-id l = l.news.items ≡ map (λ id. (id, news_of (server_of l.self) id)) (take l.id-index l.ids)
