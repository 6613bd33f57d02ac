pub mod Files
pub mod Line
pub mod Script
pub mod Verb
pub mod LogText
pub mod LogSteps
