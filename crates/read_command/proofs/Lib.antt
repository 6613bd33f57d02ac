pub mod OpenLemmas
pub mod PartLemmas
pub mod FetchLemmas
pub mod UsedLemmas
pub mod FormLemmas
pub mod ServesLemmas
