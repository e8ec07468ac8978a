pub mod Nodes
pub mod Courses
pub mod Holds
pub mod Stretch
pub mod CellStays
