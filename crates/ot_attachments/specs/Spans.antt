-- Advances that are summed once for all marks of a glyph.
use Rattle.std.specs.Prelude.{◌≡◌, ◌≤◌, List}
use Rattle.rb_glyph.specs.declared.position.GlyphPosition.{GlyphPosition}
use Rattle.ot_attachments.specs.Offsets.{across, down, sum_between}
use Rattle.ot_attachments.specs.declared.finishing.Span.{Span}

-- the sums of a span are those of the advances between its places
pub record IsSummed (ps : List GlyphPosition) (span : Span) : Type 0 where
  pub rises : span.from ≤ span.to
  pub x : span.x ≡ sum_between span.from span.to (across ps)
  pub y : span.y ≡ sum_between span.from span.to (down ps)
