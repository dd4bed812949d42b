pub mod TurnLemmas
pub mod FormedLemmas
pub mod CircleLemmas
pub mod PropertiesLemmas
pub mod MappedLemmas
pub mod RotationLemmas
