-- What the product means.
pub mod HostState
-- What the crate's own functions keep.
pub mod HostKeeping
pub mod Standing
