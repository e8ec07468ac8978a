pub mod Same
pub mod Stretch
pub mod Edited
pub mod After
pub mod Changed
pub mod Kept
pub mod Through
