pub mod TableLemmas
pub mod YieldingLemmas
