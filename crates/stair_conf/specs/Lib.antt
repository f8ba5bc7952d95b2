-- What the words of a command line say, and what a geometry text says.
pub mod Words
pub mod Rows
pub mod Commands
pub mod Config
pub mod Name
pub mod StoredName
