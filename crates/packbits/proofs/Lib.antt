pub mod AtOnce
pub mod First
pub mod PacketLemmas
