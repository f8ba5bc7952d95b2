pub mod AddsMultiple
pub mod SetsSums
pub mod Lanes
