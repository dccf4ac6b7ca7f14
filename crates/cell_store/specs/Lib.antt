-- What the product means.
pub mod Store
pub mod Gathering
-- What the crate's own functions keep.
pub mod Listing
pub mod Scanning
pub mod Walking
