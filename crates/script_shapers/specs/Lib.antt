pub mod Shapers
pub mod Stages
pub mod Syllables
pub mod ShaperFeatures
