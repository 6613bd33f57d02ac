pub mod LookingLemmas
pub mod PublishingLemmas
pub mod RoundLemmas
