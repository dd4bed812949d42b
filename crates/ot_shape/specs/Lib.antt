pub mod Glyphs
pub mod Shaped
pub mod ShapedClusters
pub mod TooLong
-- what is said of a plan, and of a font
pub use Rattle.ot_plan.specs.Plans
pub use Rattle.font_face.specs.Face
pub use Rattle.font_face.specs.FaceNames
pub use Rattle.font_face.specs.FaceVariations
pub use Rattle.font_face.specs.Measures
pub use Rattle.font_face.specs.Tables
