pub mod Counts
pub mod Refusals
pub mod Laws
pub mod Levels
