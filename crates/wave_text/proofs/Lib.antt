pub mod Cut
pub mod Waves
pub mod Events
