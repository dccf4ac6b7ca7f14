-- Laws of books, and of what their cells mean.
mod Counts
mod Entries
mod RegistryLaws
mod Settling
mod Walking
mod Reaching
mod Evaluations
mod Decisions
mod DecidedCalls
mod Deciding
mod Reading
mod Agreeing
mod Meanings
mod Clean
mod Keeping
mod Accepting
mod Completing
mod Values
mod Steps
mod Flags
mod Asking
mod Handles
mod InOrder
mod OpenCalls
pub mod PublicLaws
