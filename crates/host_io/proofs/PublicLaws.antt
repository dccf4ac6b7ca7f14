-- The laws that crates above may cite: what a reader has given out, what was written to a sink, and the cut into lines.
pub use Rattle.host_io.proofs.GivenLaws.{HasGiven-start, HasGiven-line, lines_at_end, lines_at_fault}
pub use Rattle.host_io.proofs.LineLaws.{lines_of-append}
pub use Rattle.host_io.proofs.SinkLaws.{Appends-more, Appends-kept, Appends-none, AppendsPrefix-more, AppendsPrefix-wider, AppendsPrefix-all, AppendsPrefix-kept}
