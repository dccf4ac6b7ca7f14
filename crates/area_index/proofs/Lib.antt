-- Laws of the trees.
pub mod PublicLaws
mod Ordered
mod InOrder
mod Levels
mod Found
mod Bounds
mod Standing
mod Orders
mod Turning
mod TreeLists
mod FreeNodes
mod Kept
mod Forests
mod Readers
