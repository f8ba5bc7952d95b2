-- What contracts see of a code and its symbols.
pub mod Solving
pub mod Lagrange
pub mod Weights
pub mod Kept
