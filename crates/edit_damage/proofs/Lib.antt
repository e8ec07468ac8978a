pub mod Alike
pub mod Marking
pub mod Ranges
pub mod Around
pub mod Nearness
pub mod Finding
pub mod Named
pub mod ByEdit
