pub mod Answers
pub mod Pins
pub mod Edits
pub mod Requests
pub mod Lines
pub mod Text
