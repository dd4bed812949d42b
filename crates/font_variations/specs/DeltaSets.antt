-- Rows of deltas, one of each region, and their sums.
use Rattle.std.specs.Prelude.{ℕ, ℤ, zero, suc, List, Bool, ◌+◌, ◌*◌, ◌%◌, pos, nat_le, nat_lt, unwrap_or, if◌then◌else◌}
use Rattle.std.specs.Int.{w8, w32, cast_signed}
use Rattle.std.specs.Float.{float_zero}
use Rattle.std.specs.Float.Ieee.{Float, add, mul, binary32}
use Rattle.font_tables.specs.Bytes.{byte_at, number_16, number_32, signed_16}
use Rattle.font_variations.specs.Regions.{float, region_scalar}

-- how many regions have deltas in each row
abbrev pub region_count : List ℕ → ℕ
region_count table = unwrap_or (number_16 table 4) 0

-- how many of the deltas of a row, its first ones, have the wide form, by the lower 15 bits of a number
abbrev pub wide_count : List ℕ → ℕ
wide_count table = unwrap_or (number_16 table 2) 0 % 0x8000

-- whether the wide form has 32 bits and the other one 16, by the highest bit, in place of 16 and 8
abbrev pub has_long_form : List ℕ → Bool
has_long_form table = nat_le 0x8000 (unwrap_or (number_16 table 2) 0)

-- how many rows there are: none where there are more deltas of the wide form than regions
abbrev pub item_count : List ℕ → ℕ
item_count table = if nat_le (wide_count table) (region_count table) then unwrap_or (number_16 table 0) 0 else 0

-- where a row begins, behind the numbers of the regions
abbrev pub row_start : List ℕ → ℕ → ℕ
row_start table item =
    let unit = if has_long_form table then 2 else 1 in
    6 + 2 * region_count table + unit * (region_count table + wide_count table) * item

-- where the delta at a place of a row begins, in its narrow units
abbrev pub delta_unit : List ℕ → ℕ → ℕ
delta_unit table place = place + (if nat_lt place (wide_count table) then place else wide_count table)

-- the delta at a place of a row
abbrev pub delta_in : List ℕ → ℕ → ℕ → ℤ
delta_in table item place =
    let at = row_start table item in
    let unit = delta_unit table place in
    if has_long_form table
    then if nat_lt place (wide_count table) then cast_signed w32 (unwrap_or (number_32 table (at + 2 * unit)) 0)
    else unwrap_or (signed_16 table (at + 2 * unit)) (pos 0)
    else if nat_lt place (wide_count table) then unwrap_or (signed_16 table (at + unit)) (pos 0)
    else cast_signed w8 (unwrap_or (byte_at table (at + unit)) 0)

-- what the region at a place adds: its delta, as much as it holds
abbrev pub part : List ℕ → ℕ → List ℕ → List ℤ → ℕ → Float
part table item list coordinates place =
    let region = unwrap_or (number_16 table (6 + 2 * place)) 0 in
    mul binary32 (region_scalar list region coordinates) (float (delta_in table item place))

-- the sum of the first parts, one after the other
abbrev pub sum_of : (ℕ → Float) → ℕ → Float
sum_of f zero = float_zero
sum_of f (suc n) = add binary32 (sum_of f n) (f n)

-- the delta of a row: the sum over all its regions
unfoldable pub row_delta : List ℕ → ℕ → List ℕ → List ℤ → Float
row_delta table item list coordinates =
    if nat_lt item (item_count table)
    then sum_of (part table item list coordinates) (region_count table) else float_zero
