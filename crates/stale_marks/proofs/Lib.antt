-- Laws of marks.
mod EditLaws
mod SpreadLaws
mod WalkLaws
pub mod PublicLaws
