-- What contracts see of a canonical stripe, and what its calls make of it.
pub mod Canonical
pub mod Solving
pub mod Along
pub mod Parities
pub mod Order
pub mod Kept
pub mod Patterns
