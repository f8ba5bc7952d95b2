-- What a plan says of a geometry, and its text.
pub mod Penalty
pub mod Plan
pub mod PlanText
