mod AskLemmas
pub mod HandedLemmas
