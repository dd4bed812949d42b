-- How much of a tuple's deltas holds at a place in the variations of a font.
use Rattle.std.specs.Prelude.{ℕ, ℤ, List, Option, Some, None, ◌*◌, ◌%◌, nat_lt, drop, if◌then◌else◌}
use Rattle.std.specs.Option.{option_map_or}
use Rattle.std.specs.Float.{float_zero}
use Rattle.std.specs.Float.Ieee.{Float}
use Rattle.font_variations.specs.Tents.{scalar}
use Rattle.font_gvar.specs.Tuples.{has_ends, has_peak}
use Rattle.font_gvar.specs.declared.gvar.GlyphVariations.{GlyphVariations}
use Rattle.font_gvar.specs.declared.tuples.Tuple.{Tuple}

-- the peaks of a tuple: its own, or those that glyphs share under the number in the lower 12 bits of its flags
abbrev pub peaks_of : GlyphVariations → Tuple → Option (List ℕ)
peaks_of v tuple =
    if has_peak tuple.flags then Some tuple.coordinates.now
    else if nat_lt (tuple.flags % 0x1000) v.shared_count
    then Some (drop (2 * v.axis_count * (tuple.flags % 0x1000)) v.shared.now) else None

-- its own tuples for where the deltas begin and end to hold, behind its own peaks
abbrev pub ends_of : GlyphVariations → Tuple → Option (List ℕ)
ends_of v tuple =
    if has_ends tuple.flags
    then Some (drop (if has_peak tuple.flags then 2 * v.axis_count else 0) tuple.coordinates.now) else None

-- how much of a tuple's deltas holds
unfoldable pub tuple_scalar : GlyphVariations → Tuple → List ℤ → Float
tuple_scalar v tuple coordinates =
    option_map_or (λ peaks. scalar peaks (ends_of v tuple) v.axis_count coordinates) (peaks_of v tuple) float_zero
