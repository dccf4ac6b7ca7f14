-- Laws of the chain.
mod ChainLaws
mod ListLaws
mod OrderLaws
pub mod PublicLaws
mod RenewalLaws
mod CrowdLaws
mod DueLaws
mod KeepsLaws
mod LabelLaws
mod LinkLaws
