pub mod Board
pub mod Regions
pub mod Windows
pub mod Steps
