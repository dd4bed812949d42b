use Rattle.std.proofs.Common.{◌≡◌, map, drop}
use Rattle.ot_lookups.specs.LookupProps.{glyph_at}
use Rattle.ot_gsub.specs.Ligatures.{are_marks}
use Rattle.ot_gsub.proofs.ligation.are_marks.Given as goal

abbrev pub invariant-loop-place : goal.invariant-loop-place
invariant-loop-place l =
    are_marks (map (glyph_at l.glyphs) (drop l.place-index l.places)) ≡ are_marks (map (glyph_at l.glyphs) l.places)
