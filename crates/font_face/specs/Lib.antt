pub mod Face
pub mod FaceVariations
pub mod FaceNames
pub mod Measures
pub mod Tables
