pub mod Crossing
pub mod Gaps
