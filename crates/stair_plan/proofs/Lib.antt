-- What the proofs of a plan cite, and those of crates above on its being the only one.
mod PenaltyLemmas
pub mod PlanLemmas
