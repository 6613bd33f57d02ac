pub mod Exchanges
pub mod Part
pub mod Text
