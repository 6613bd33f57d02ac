pub mod Block
pub mod Extent
