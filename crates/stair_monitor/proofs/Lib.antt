pub mod EventLemmas
pub mod ReadLemmas
pub mod ReportLemmas
pub mod SeenLemmas
