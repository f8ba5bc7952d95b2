-- Lemmas of this crate.
pub mod CopyLemmas
pub mod LawLemmas
