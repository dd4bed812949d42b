use Rattle.std.specs.List.{AllWithin}
use Rattle.glyph_digests.specs.FirstGlyphs.{HasMoreFirst}
use Rattle.ot_lookups.proofs.reading.firsts_of.Given as goal

-- the first glyphs of the subtables so far are there
abbrev pub invariant-loop-subtable : goal.invariant-loop-subtable
invariant-loop-subtable l = AllWithin (λ s. HasMoreFirst s.firsts l.firsts) l.subtables 0 l.subtable-index
