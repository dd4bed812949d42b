pub mod KernedByTable
pub mod MarkPlacing
pub mod Stays
