pub mod Growing
pub mod Keeps
pub mod Making
pub mod Moves
