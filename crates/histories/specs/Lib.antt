pub mod Track
pub mod Place
pub mod Pairs
pub mod Piece
pub mod Record
