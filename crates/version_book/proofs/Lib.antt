pub mod WaveLines
pub mod NamedNodes
pub mod KeptWaves
