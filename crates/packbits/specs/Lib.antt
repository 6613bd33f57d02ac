pub mod Unpacking
pub mod Adding
