-- The laws that crates above may cite: what was finished stays, and so do the values of topics, over no call and over
-- one more; and a recalculation goes on where one more value is accepted.
pub use Rattle.calc_round.proofs.Accepting.{accepted-reads, accepted-working}
pub use Rattle.calc_round.proofs.Finishing.{kept-none, kept-then}
pub use Rattle.calc_round.proofs.TopicsRead.{values-none, values-then}
