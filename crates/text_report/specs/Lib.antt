pub mod Found
pub mod InfoText
pub mod Netpbm
