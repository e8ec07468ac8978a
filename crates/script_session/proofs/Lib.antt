pub mod Pinned
pub mod Played
pub mod Printed
