-- Deltas of an item variation store.
use Rattle.std.specs.Prelude.{ℕ, ℤ, List, [], Bool, ◌+◌, ◌*◌, ◌/◌, ◌%◌, ◌&&◌, not, nat_eq, nat_lt, nat_le, length, unwrap_or, if◌then◌else◌}
use Rattle.std.specs.Option.{option_map_or}
use Rattle.std.specs.Float.{float_zero}
use Rattle.std.specs.Float.Ieee.{Float}
use Rattle.font_tables.specs.Bytes.{number_16, table_at_32, is_number}
use Rattle.font_variations.specs.DeltaSets.{row_delta}
use Rattle.font_variations.specs.Regions.{region_scalar}
use Rattle.font_variations.specs.declared.variation_store.Deltas.{Deltas}

-- whether a store has a table of deltas with this number
abbrev pub has_sets : List ℕ → ℕ → Bool
has_sets store outer = is_number (number_16 store 0) 1 && nat_lt outer (unwrap_or (number_16 store 6) 0)

-- the delta of a delta set, whose table of deltas is numbered in the upper 16 bits, and whose row in the lower ones
unfoldable pub delta : List ℕ → ℕ → List ℤ → Float
delta store index coordinates =
    if has_sets store (index / 65536)
    then row_delta (unwrap_or (table_at_32 store (8 + 4 * (index / 65536))) []) (index % 65536)
    (unwrap_or (table_at_32 store 2) []) coordinates else float_zero

-- the table of deltas with a number
abbrev pub sets : List ℕ → ℕ → List ℕ
sets store n = if has_sets store n then unwrap_or (table_at_32 store (8 + 4 * n)) [] else []

-- how many regions its deltas are for, and how much of those of the region at a place holds
abbrev pub region_count : List ℕ → ℕ → ℕ
region_count store set = unwrap_or (number_16 (sets store set) 4) 0

abbrev pub scalar_in : List ℕ → ℕ → ℕ → List ℤ → Float
scalar_in store set place coordinates =
    option_map_or (λ region. region_scalar (unwrap_or (table_at_32 store 2) []) region coordinates)
    (number_16 (sets store set) (6 + 2 * place)) float_zero

-- the store of a table `GDEF`, which its version 1.3 has
unfoldable pub gdef_store : List ℕ → List ℕ
gdef_store gdef =
    if is_number (number_16 gdef 0) 1 && nat_le 3 (unwrap_or (number_16 gdef 2) 0)
    then unwrap_or (table_at_32 gdef 14) [] else []

-- whether variations are chosen
abbrev pub is_varied : Deltas → Bool
is_varied deltas = not (nat_eq (length deltas.coordinates.now) 0)

-- the delta of a delta set at the place that is chosen
abbrev pub chosen_delta : Deltas → ℕ → Float
chosen_delta deltas index = delta deltas.store.table.now index deltas.coordinates.now
