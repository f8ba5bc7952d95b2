-- The volumes of an array, and the table of them.
pub mod Table
pub mod StoredTable
pub mod Changes
pub mod Page
pub mod Commands
pub mod Volumes
pub mod Parts
pub mod Ends
