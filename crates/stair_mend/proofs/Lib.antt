-- Lemmas of this crate.
pub mod StepLemmas
pub mod ChunkLaws
pub mod ReplacingLemmas
