-- What a feed in memory holds.
use Rattle.rtd_server.specs.Board.{BoardState, is_fresh_at, opening_at, published_at}
use Rattle.rtd_server.specs.Links.{LinksState, connected_at}
use Rattle.rtd_server.specs.Server.{ServerState}

-- what a feed published, and the ids that are connected to it
pub record FeedState : Type 0 where
  pub board : BoardState
  pub links : LinksState

-- what a feed holds, as a server
abbrev pub server_of : FeedState → ServerState
server_of feed = record {
  published = published_at feed.board;
  opening = opening_at feed.board;
  is_fresh = is_fresh_at feed.board;
  connected = connected_at feed.links;
  due = feed.links.due;
}
