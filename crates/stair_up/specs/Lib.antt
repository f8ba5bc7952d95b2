-- The order in which the rows of a chunk are solved, and what is found on the way.
pub mod ErasedAlong
pub mod RowsSteps
pub mod SolveSteps
