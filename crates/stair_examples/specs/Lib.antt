-- For each definition, what meets it and what does not.
pub mod Stripes
pub mod Devices
pub mod Journals
pub mod Arrays
pub mod Calls
pub mod Histories
pub mod Copies
