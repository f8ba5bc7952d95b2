pub mod Products
pub mod Room
pub mod Formula
pub mod SolvedSoFar
pub mod Stretches
pub mod Pattern
pub mod Summing
