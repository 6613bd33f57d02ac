pub mod TransportLemmas
pub mod PieceLemmas
