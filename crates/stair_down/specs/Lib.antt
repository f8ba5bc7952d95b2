-- By which symbols a canonical stripe is solved downwards, and what is solved.
pub mod Places
pub mod DownstairsSteps
