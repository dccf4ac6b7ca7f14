-- Lemmas of this crate.
mod Accepting
mod Linking
mod Walking
