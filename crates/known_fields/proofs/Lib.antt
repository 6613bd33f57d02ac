pub mod ReadsLemmas
pub mod NumberLemmas
pub mod EntryLemmas
pub mod ValueLemmas
pub mod DirectoryLemmas
pub mod SumLemmas
