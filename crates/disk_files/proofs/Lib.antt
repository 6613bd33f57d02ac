pub mod ReadingLemmas
pub mod StampLemmas
mod WatchLemmas
