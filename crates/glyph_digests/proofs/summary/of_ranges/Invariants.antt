use Rattle.std.proofs.Common.{ℕ, ◌≡◌, ◌<◌, ◌≤◌, Some, true}
use Rattle.std.specs.Prelude.{option_and_then, slice_get}
use Rattle.font_tables.specs.Bytes.{number_16}
use Rattle.glyph_digests.proofs.summary.of_ranges.Given as goal

-- the digest may have the glyphs of the ranges so far
abbrev pub invariant-loop-range : goal.invariant-loop-range
invariant-loop-range g l =
    (row : ℕ) → row < l.range-index → (first last : ℕ)
    → option_and_then (λ chunk. number_16 chunk 0) (slice_get l.ranges row) ≡ Some first
    → option_and_then (λ chunk. number_16 chunk 2) (slice_get l.ranges row) ≡ Some last
    → (glyph : ℕ) → first ≤ glyph → glyph ≤ last → g.S.Summary.has l.summary glyph ≡ true
