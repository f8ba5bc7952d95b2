-- Which media an array leaves out, over its life.
pub mod Stale
pub mod Example
