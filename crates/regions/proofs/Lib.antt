pub mod Ticks
pub mod Parts
pub mod Changes
pub mod Joins
