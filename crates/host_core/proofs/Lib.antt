-- Lemmas of this crate.
pub mod TopicLists
pub mod TopicSteps
pub mod TopicRounds
pub mod RtdStands
pub mod HostListeners
pub mod HostKept
pub mod Reserved
pub mod Returning
pub mod Ending
pub mod HostSteps
