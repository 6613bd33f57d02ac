mod ArgumentLemmas
mod LineLemmas
mod NamedLemmas
mod WordLemmas
