pub mod EquationLaws
pub mod GlobalCounts
pub mod RowScan
pub mod CoverageScan
pub mod RestRows
pub mod CellRows
pub mod SlotLemmas
