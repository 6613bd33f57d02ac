pub mod Answers
pub mod Status
pub mod Run
pub mod Inside
