pub mod Splices
pub mod Starts
pub mod Waves
