-- The stripes of a rack: what gathering finds, and what placing writes.
pub mod Gathering
pub mod Placing
pub mod Reads
pub mod GatheringSteps
