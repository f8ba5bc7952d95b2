pub mod Filling
pub mod Nonsingular
