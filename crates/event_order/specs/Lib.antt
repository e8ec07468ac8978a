pub mod Buckets
pub mod Marks
pub mod Parts
pub mod Spots
pub mod Tables
pub mod Ticks
