pub mod InMemory
pub mod Transports
