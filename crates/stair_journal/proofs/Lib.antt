-- Lemmas of this crate.
pub mod BitLemmas
pub mod GateLemmas
pub mod KnownGate
pub mod WritesLemmas
pub mod RedoLemmas
pub mod LiveCounts
pub mod ToldLemmas
pub mod ReadToldLemmas
pub mod DoesLemmas
pub mod TurnLemmas
pub mod GatesLemmas
pub mod AskLemmas
pub mod BodyLemmas
pub mod ReadGateLemmas
