pub mod Lines
pub mod WatcherList
pub mod Watchers
