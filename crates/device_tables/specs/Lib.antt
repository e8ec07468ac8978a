pub mod Ends
pub mod Kept
pub mod Table
pub mod Level
pub mod Refusal
