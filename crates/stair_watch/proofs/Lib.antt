pub mod TellLemmas
pub mod WatchLemmas
pub mod PutLemmas
pub mod TallyLemmas
