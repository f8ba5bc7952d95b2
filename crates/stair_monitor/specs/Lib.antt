pub mod Quotas
pub mod Reports
pub mod Seen
