pub mod CellStays
pub mod Records
pub mod Stretches
