pub mod Doubles
pub mod Keys
pub mod KeyEntry
pub mod Same
