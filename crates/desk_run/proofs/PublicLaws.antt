-- The laws that crates above may cite: what is written at a desk of which no server fails.
pub use Rattle.desk_run.proofs.SteadyRuns.{answered_steady, begun_steady, full_steady}
