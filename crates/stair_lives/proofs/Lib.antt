-- Lemmas of this crate.
pub mod Known
pub mod NewestLemmas
pub mod BehindPlaces
pub mod Begun
pub mod SeatsKept
pub mod SessionLine
pub mod LivesLaws
pub mod ReadsOf
pub mod LeftOutAgain
pub mod Amid
pub mod AmidCalls
pub mod OpenedWithout
pub mod InStamps
