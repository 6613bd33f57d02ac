pub mod Slots
pub mod Refusals
pub mod Turns
pub mod Draining
pub mod Waits
pub mod Unanswered
pub mod Going
pub mod Closings
