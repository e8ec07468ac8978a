pub mod Counted
pub mod Put
pub mod Whole
