pub mod Answer
pub mod Ascii
pub mod Direction
pub mod Script
pub mod ScriptConstants
pub mod Tag
