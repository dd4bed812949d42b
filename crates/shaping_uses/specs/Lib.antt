pub mod Printing
pub mod Runs
pub mod Rendering
pub mod Groups
pub mod Marks
