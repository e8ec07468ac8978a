pub mod Accepted
pub mod Changed
