pub mod Text
pub mod TextReading
pub mod Pen
-- what the public clauses name of the crate below
pub use Rattle.rb_glyph.specs.declared.flag_sets.SerializeFlags
pub use Rattle.rb_glyph.specs.declared.info.hb_glyph_info_t
pub use Rattle.rb_glyph.specs.declared.names.GlyphExtents
pub use Rattle.rb_glyph.specs.declared.position.GlyphPosition
