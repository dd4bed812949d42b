pub mod Covered
pub mod Digest
pub mod FirstGlyphs
