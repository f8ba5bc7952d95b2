-- What the calls for C answer, and how stripes lie in memory.
pub mod Chunks
pub mod Costs
pub mod Encoders
pub mod Restores
pub mod Statuses
