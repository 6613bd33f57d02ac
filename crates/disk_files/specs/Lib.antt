pub mod Given
pub mod Settled
pub mod Published
pub mod Watching
