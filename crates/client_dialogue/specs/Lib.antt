pub mod History
pub mod Useful
pub mod Inside
pub mod Checking
pub mod Goes
pub mod Truth
