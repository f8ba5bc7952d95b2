-- When a device is an older copy, and what is found.
pub mod Copies
pub mod Found
