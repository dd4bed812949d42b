use Rattle.std.proofs.Common.{◌≡◌, true}
use Rattle.std.specs.List.{AllWithin}
use Rattle.glyph_digests.specs.Digest.{may_have}
use Rattle.glyph_digests.proofs.digest.Digest.of_glyphs.Given as goal

-- the digest may have the glyphs so far
abbrev pub invariant-loop-glyph : goal.invariant-loop-glyph
invariant-loop-glyph l = AllWithin (λ g. may_have l.digest g.glyph_id ≡ true) l.glyphs 0 l.glyph-index
