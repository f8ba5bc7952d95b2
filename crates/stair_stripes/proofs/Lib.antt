pub mod CellLemmas
pub mod GatheringLemmas
pub mod SoFarLemmas
pub mod ReadCounts
pub mod ReadsLemmas
pub mod PlacingLemmas
