pub mod KeyDirectoryHeader
pub mod Numbers
pub mod Unique
pub mod Chunks
pub mod Worked
