pub mod Components
pub mod Glyphs
pub mod Phantoms
pub mod Points
pub mod TupleScalar
pub mod Tuples
