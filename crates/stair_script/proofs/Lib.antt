pub mod WordLemmas
pub mod LineLemmas
pub mod ReadLemmas
pub mod DecidedLemmas
