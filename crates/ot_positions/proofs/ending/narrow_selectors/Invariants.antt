use Rattle.std.proofs.Common.{◌≡◌, IsSome}
use Rattle.ot_positions.specs.Ending.{is_selector}
use Rattle.ot_positions.specs.Widths.{where_glyph, without_width}
use Rattle.ot_positions.proofs.WidthsLemmas.{changed_before}
use Rattle.ot_positions.proofs.ending.narrow_selectors.Given as goal

-- the glyphs before the place have become what they are to become
abbrev pub invariant-loop-i : goal.invariant-loop-i
invariant-loop-i l = record {
  is : l.buffer ≡ changed_before (where_glyph is_selector without_width) l.i l.fn.buffer;
  placed : IsSome l.buffer.positions;
}
