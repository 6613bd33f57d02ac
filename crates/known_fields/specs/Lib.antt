pub mod Reads
pub mod Entry
pub mod Directories
pub mod Sum
