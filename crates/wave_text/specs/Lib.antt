pub mod Answers
pub mod Range
pub mod Shown
pub mod Happened
pub mod Body
