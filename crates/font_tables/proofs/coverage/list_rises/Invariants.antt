use Rattle.std.proofs.Common.{◌≡◌, false}
use Rattle.std.specs.Prelude.{option_and_then, slice_get}
use Rattle.font_tables.specs.Bytes.{number_16}
use Rattle.font_tables.proofs.RowLemmas.{RisesTo}
use Rattle.font_tables.proofs.coverage.list_rises.Given as goal

-- the last keys so far rise, unless one of them was seen to fall
abbrev pub invariant-loop-glyph : goal.invariant-loop-glyph
invariant-loop-glyph l =
    l.falls ≡ false
    → RisesTo (λ row. option_and_then (λ chunk. number_16 chunk 0) (slice_get l.glyphs row)) l.glyph-index l.before
