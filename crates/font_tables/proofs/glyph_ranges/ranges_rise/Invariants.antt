use Rattle.std.proofs.Common.{◌≡◌, false}
use Rattle.std.specs.Prelude.{option_and_then, slice_get}
use Rattle.font_tables.specs.Bytes.{number_16}
use Rattle.font_tables.proofs.RowLemmas.{RisesTo}
use Rattle.font_tables.proofs.glyph_ranges.ranges_rise.Given as goal

-- the last keys so far rise, unless one of them was seen to fall
abbrev pub invariant-loop-range : goal.invariant-loop-range
invariant-loop-range l =
    l.falls ≡ false
    → RisesTo (λ row. option_and_then (λ chunk. number_16 chunk 2) (slice_get l.ranges row)) l.range-index l.before
