pub mod Cores
-- what the public clauses name of the crates below
pub use Rattle.glyph_lists.specs.Clusters
pub use Rattle.glyph_lists.specs.Deletion
pub use Rattle.glyph_lists.specs.GlyphFlags
pub use Rattle.glyph_lists.specs.Marks
pub use Rattle.glyph_lists.specs.Masks
pub use Rattle.glyph_lists.specs.Parts
pub use Rattle.glyph_lists.specs.Replacement
pub use Rattle.rb_glyph.specs.declared.info.hb_glyph_info_t
