use Rattle.std.proofs.Common.{◌≡◌, IsSome}
use Rattle.ot_positions.specs.Widths.{is_mark, where_glyph, without_advance}
use Rattle.ot_positions.proofs.WidthsLemmas.{changed_before}
use Rattle.ot_positions.proofs.widths.zero_mark_widths.Given as goal

-- the glyphs before the place have become what they are to become
abbrev pub invariant-loop-i : goal.invariant-loop-i
invariant-loop-i l = record {
  is : l.buffer ≡ changed_before (where_glyph is_mark (without_advance l.adjusts)) l.i l.fn.buffer;
  placed : IsSome l.buffer.positions;
}
