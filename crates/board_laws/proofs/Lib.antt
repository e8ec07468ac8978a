pub mod Same
pub mod Stays
pub mod Sweeping
pub mod Steps
pub mod Fresh
pub mod Regions
