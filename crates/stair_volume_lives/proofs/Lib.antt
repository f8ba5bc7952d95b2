-- Lemmas of this crate.
pub mod ByteLemmas
pub mod HeldBytes
pub mod JobBytes
pub mod LivesLaws
pub mod CallLaws
pub mod ExampleLaws
