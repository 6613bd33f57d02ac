pub mod Entries
pub mod Fronts
pub mod Stored
pub mod Whole
pub mod Bytes
pub mod Putting
pub mod LawLemmas
pub mod Parting
