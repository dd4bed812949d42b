pub mod FontDicts
pub mod Glyf
pub mod Index
pub mod Index2
pub mod Operand
pub mod Subroutines
