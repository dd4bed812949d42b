-- Why glyphs that are hidden keep the clusters (`ClusterLemmas`), positions that become others glyph by glyph
-- (`WidthsLemmas`, `TrackingLemmas`), advances (`AdvanceLemmas`), walks over clusters (`ClusterFlagsLemmas`), and glyphs that are mapped
-- (`MappedLemmas`).

pub mod AdvanceLemmas
pub mod ClusterFlagsLemmas
pub mod ClusterLemmas
pub mod MappedLemmas
pub mod TrackingLemmas
pub mod WidthsLemmas
