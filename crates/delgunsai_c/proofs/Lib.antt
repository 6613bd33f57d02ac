mod AsBox
mod BeginsLemmas
