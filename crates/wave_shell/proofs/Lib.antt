pub mod Names
pub mod Judging
pub mod Played
pub mod Endings
pub mod Clauses
pub mod WaveTexts
