pub mod TakeLemmas
pub mod FetchLemmas
pub mod ReportLemmas
