-- Laws of open calls in cell order, and of trees of them.
mod FoundLaws
mod OpenLaws
mod OrderLaws
pub mod PublicLaws
mod ServingLaws
mod SplitLaws
