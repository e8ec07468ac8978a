pub mod Places
pub mod Follows
pub mod Parts
pub mod Joins
pub mod Waves
pub mod Shapes
pub mod Records
pub mod Faultless
