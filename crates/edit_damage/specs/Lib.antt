pub mod Same
pub mod Marks
pub mod Near
pub mod ByEdit
