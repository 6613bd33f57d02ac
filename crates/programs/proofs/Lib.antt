mod BoundsLemmas
mod FileLemmas
mod HeaderLemmas
mod NamedLemmas
mod PrintedLemmas
