pub mod Table
pub mod Yielding
