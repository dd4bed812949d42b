pub mod Batch
pub mod CodePoints
pub mod Features
pub mod Options
pub mod Variations
