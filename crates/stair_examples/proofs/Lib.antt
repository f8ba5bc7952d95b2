-- Lemmas of this crate.
pub mod CoveredLemmas
pub mod CrashLemmas
pub mod JournalLemmas
pub mod NewRackLemmas
pub mod EncodesLemmas
pub mod ToleranceLemmas
pub mod RepresentsLemmas
pub mod CallLemmas
pub mod LifeLemmas
pub mod CopyLemmas
