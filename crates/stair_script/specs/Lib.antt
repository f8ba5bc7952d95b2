-- The lines of a script, and lines of events.
pub mod Events
pub mod Line
