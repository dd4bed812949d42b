pub mod Status
-- the lines of a text, and what is held of a file
pub use Rattle.shape_lines.specs.Answer
pub use Rattle.shape_lines.specs.Lines
pub use Rattle.shape_lines.specs.Reading
pub use Rattle.shape_fonts.specs.HeldFile
