mod AheadLemmas
mod FileLemmas
mod FinishLemmas
mod GatheredLemmas
mod PendingLemmas
mod RackLemmas
mod ReadLemmas
