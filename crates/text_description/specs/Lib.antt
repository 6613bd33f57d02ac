pub mod Covering
pub mod Description
pub mod Facts
pub mod NoData
pub mod Placement
pub mod Text
pub mod World
