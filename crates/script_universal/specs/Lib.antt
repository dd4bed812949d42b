pub mod Composition
pub mod Scripts
pub mod Stages
pub mod KhmerFeatures
pub mod Masks
pub mod MyanmarFeatures
pub mod Order
pub mod UniversalFeatures
