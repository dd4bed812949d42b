pub mod Characters
pub mod Heads
pub mod Json
-- what the public clauses name of the crates below
pub use Rattle.rb_glyph.specs.declared.flag_sets.SerializeFlags
pub use Rattle.rb_glyph.specs.declared.info.hb_glyph_info_t
pub use Rattle.rb_glyph.specs.declared.position.GlyphPosition
pub use Rattle.glyph_text.specs.Text
