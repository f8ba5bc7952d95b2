-- What an array is: its blocks and their stripes, its state, and which media represent it.
pub mod Blocks
pub mod State
pub mod Forms
pub mod Tolerance
pub mod Degraded
pub mod Represents
pub mod Reassembly
pub mod Holding
pub mod Surveyed
pub mod Redoing
pub mod Recovering
