pub mod Digits
pub mod Rounding
pub mod Significant
pub mod Judged
pub mod Written
