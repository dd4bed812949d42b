use Rattle.std.specs.List.{AllWithin}
use Rattle.glyph_digests.specs.Digest.{HasMore}
use Rattle.ot_lookups.proofs.reading.digest_of.Given as goal

-- the digest has the glyphs of the subtables so far
abbrev pub invariant-loop-subtable : goal.invariant-loop-subtable
invariant-loop-subtable l = AllWithin (λ s. HasMore s.digest l.digest) l.subtables 0 l.subtable-index
