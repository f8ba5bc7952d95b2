pub mod Lists
pub mod RowPlaces
pub mod ChunkPlaces
pub mod Walk
pub mod Target
pub mod Counting
