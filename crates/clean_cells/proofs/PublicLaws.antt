-- The laws that crates above may cite: what every state that commands lead to keeps, and what follows for its cells
-- that aren't stale.
pub use Rattle.clean_cells.proofs.EveryState.{always_alike, always_kept, begun_alike, meaning_kept, reads_kept, still_kept, topics_kept}
pub use Rattle.clean_cells.proofs.Fresh.{fresh_unchanged}
pub use Rattle.clean_cells.proofs.Rounds.{begin_kept}
pub use Rattle.clean_cells.proofs.Snapshots.{alike_kept}
pub use Rattle.clean_cells.proofs.Acceptance.{open_stale}
pub use Rattle.clean_cells.proofs.TopicLists.{listed-filter, listed-flat_map, listed-passing, listed-topics_once, lookup-append, lookup-map_entries, lookup-of_topics, passes_found, same_topic_is}
pub use Rattle.clean_cells.proofs.WithoutRtd.{calls_rtd, readers_call}
