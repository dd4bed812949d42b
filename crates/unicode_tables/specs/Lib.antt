pub mod Mapping
pub mod Mirrors
pub mod Rows
