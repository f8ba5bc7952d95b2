-- The number and the line of each status.
pub mod Status
