-- What contracts see of a matrix.
pub mod Entries
