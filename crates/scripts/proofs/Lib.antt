mod EventLemmas
mod FileLemmas
mod LineLemmas
mod NumberLemmas
mod Worked
