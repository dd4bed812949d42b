pub mod FirstEdit
pub mod GlyphTable
pub mod Reverse
pub mod Substitution
