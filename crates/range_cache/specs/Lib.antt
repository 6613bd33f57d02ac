pub mod Numbers
pub mod Cache
pub mod Piece
pub mod Missing
pub mod Laws
