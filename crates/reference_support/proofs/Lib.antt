pub mod NumberLemmas
pub mod EntryLemmas
pub mod RangeLemmas
pub mod UnpackingLemmas
pub mod PacketLemmas
pub mod SampleLemmas
pub mod RowLemmas
pub mod AskedLemmas
