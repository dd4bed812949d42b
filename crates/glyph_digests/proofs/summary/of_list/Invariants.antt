use Rattle.std.proofs.Common.{ℕ, ◌≡◌, ◌<◌, Some, true}
use Rattle.std.specs.Prelude.{option_and_then, slice_get}
use Rattle.font_tables.specs.Bytes.{number_16}
use Rattle.glyph_digests.proofs.summary.of_list.Given as goal

-- the digest may have the glyphs of the rows so far
abbrev pub invariant-loop-glyph : goal.invariant-loop-glyph
invariant-loop-glyph g l =
    (row : ℕ) → row < l.glyph-index → (glyph : ℕ)
    → option_and_then (λ chunk. number_16 chunk 0) (slice_get l.glyphs row) ≡ Some glyph
    → g.S.Summary.has l.summary glyph ≡ true
