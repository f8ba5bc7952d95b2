-- Racks such as wrong bodies leave, and right ones, where media are reinserted.
pub mod Refused
