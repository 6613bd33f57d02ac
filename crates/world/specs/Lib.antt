pub mod World
pub mod Progress
pub mod Run
pub mod State
pub mod LowerLaws
