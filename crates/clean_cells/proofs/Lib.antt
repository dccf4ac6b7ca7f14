-- What commands keep of the cells that aren't stale.
mod SameValues
mod TopicLists
mod WithoutRtd
mod Books
mod Fresh
mod Servers
mod Readers
mod Acceptance
mod Snapshots
mod EasySteps
mod Edits
mod Pulls
mod Rounds
mod EveryState
pub mod PublicLaws
