-- The tuples of a glyph's variations.
use Rattle.std.specs.Prelude.{ℕ, List, Bool, Option, Some, None, ◌+◌, ◌*◌, nat_eq, nat_le, nat_lt, length, max, take, if◌then◌else◌}
use Rattle.std.specs.Prelude.{option_and_then, unwrap_or}
use Rattle.font_tables.specs.Bytes.{number_16}
use Rattle.font_gvar.specs.Components.{has_flag}

-- whether the peak is a tuple of its own, by the highest bit, and whether there are tuples of their own for where the deltas begin and
-- end to hold
abbrev pub has_peak : ℕ → Bool
has_peak flags = nat_le 0x8000 flags

abbrev pub has_ends : ℕ → Bool
has_ends flags = has_flag flags 0x4000

-- whether it has points of its own
abbrev pub has_points : ℕ → Bool
has_points flags = has_flag flags 0x2000

-- how many bytes the own tuples have, each with a number of two bytes for each axis
abbrev pub own_size : ℕ → ℕ → ℕ
own_size axes flags = 2 * axes * ((if has_peak flags then 1 else 0) + (if has_ends flags then 2 else 0))

-- the flags of the next tuple of so many that are left. `None` where there is none, or its header does not lie in the variations:
-- HarfBuzz refuses one behind which fewer bytes stand than the tuple has deltas, too
abbrev pub flags_within : ℕ → List ℕ → ℕ → ℕ → Option ℕ
flags_within axes headers size flags =
    if nat_lt (length headers) (max size (4 + own_size axes flags)) then None else Some flags

abbrev pub next_flags : ℕ → ℕ → List ℕ → Option ℕ
next_flags left axes headers =
    if nat_eq left 0 then None
    else option_and_then (λ size. option_and_then (flags_within axes headers size) (number_16 headers 2)) (number_16 headers 0)

-- how many bytes of deltas a tuple has, by its header, and these bytes, where they are all there
abbrev pub data_size : List ℕ → ℕ
data_size headers = unwrap_or (number_16 headers 0) 0

abbrev pub data_within : List ℕ → ℕ → Option (List ℕ)
data_within bytes size = if nat_eq (length (take size bytes)) size then Some (take size bytes) else None
