-- Lemmas on sectors of stripes.
pub mod ErasedLemmas
pub mod RestoreLemmas
pub mod SectorLemmas
