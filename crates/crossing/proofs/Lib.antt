pub mod Casts
pub mod Straight
pub mod Cells
pub mod Ticks
