pub mod Base
pub mod Composition
pub mod FinalBase
pub mod IndicFeatures
pub mod InitialOrder
pub mod Scripts
pub mod Stages
