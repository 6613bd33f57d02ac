pub mod HeadLemmas
pub mod RunLemmas
