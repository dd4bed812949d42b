pub mod Answer
pub mod Lines
pub mod Prepared
pub mod Reading
