pub mod CoveringLemmas
pub mod LevelLemmas
pub mod TextLemmas
pub mod NoDataLemmas
