pub mod TextGlyphs
pub mod TwoLists
pub mod IsStored
pub mod LendingLists
pub mod Lending
-- what the public clauses name of the crates below
pub use Rattle.glyph_lists.specs.ClusterOrder
pub use Rattle.glyph_lists.specs.Clusters
pub use Rattle.glyph_lists.specs.Deletion
pub use Rattle.glyph_lists.specs.Parts
pub use Rattle.glyph_lists.specs.RangeChange
pub use Rattle.glyph_lists.specs.Replacement
pub use Rattle.glyph_lists.specs.Scans
pub use Rattle.rb_glyph.specs.declared.info.hb_glyph_info_t
