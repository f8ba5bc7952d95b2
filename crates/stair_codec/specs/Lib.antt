-- Which encoder a code takes, and in how many steps.
pub mod Choice
pub mod Kept
