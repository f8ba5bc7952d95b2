pub mod Reason
pub mod Slot
pub mod Files
pub mod FileRack
pub mod Finish
pub mod Gathered
