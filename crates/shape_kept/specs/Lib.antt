pub mod Numbered
pub mod Sizes
-- what is said of a font
pub use Rattle.font_face.specs.Face
-- the lines of a text
pub use Rattle.shape_lines.specs.Lines
