pub mod Rising
pub mod Pairs
pub mod Walk
pub mod Told
