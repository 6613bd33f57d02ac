pub mod Lines
pub mod Publishing
pub mod Refused
pub mod Rounds
