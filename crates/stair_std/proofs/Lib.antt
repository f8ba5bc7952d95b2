mod Numbers
mod Blocks
mod Parts
pub mod UnitStripes
mod Columns
mod Summing
mod Encoding
mod Counting
mod DependentCells
mod Updating
