pub mod GlyphRows
pub mod Lookup
pub mod StateTable
pub mod FeatureNames
pub mod Metamorphosis
pub mod Tracking
