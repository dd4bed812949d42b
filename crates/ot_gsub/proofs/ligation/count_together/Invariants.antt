use Rattle.std.proofs.Common.{◌≡◌, ◌≤◌, ◌+◌, ◌*◌, ◌∷◌, map, drop}
use Rattle.ot_lookups.specs.LookupProps.{glyph_at}
use Rattle.ot_gsub.specs.Ligatures.{count_together}
use Rattle.ot_gsub.proofs.ligation.count_together.Given as goal

abbrev pub invariant-loop-place : goal.invariant-loop-place
invariant-loop-place l = record {
  few : l.count ≤ 255 * (l.place-index + 1);
  rest : l.count + count_together (map (glyph_at l.glyphs) (drop l.place-index l.others))
      ≡ count_together (glyph_at l.glyphs 0 ∷ map (glyph_at l.glyphs) l.others);
}
