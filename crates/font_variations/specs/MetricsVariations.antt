-- By how much advances, side bearings and vertical origins change (OpenType specification, "HVAR - Horizontal Metrics Variations Table"
-- and "VVAR - Vertical Metrics Variations Table").
use Rattle.std.specs.Prelude.{ℕ, ℤ, List, [], Option, Some, None, ◌&&◌, nat_le, length, unwrap_or, option_map, if◌then◌else◌}
use Rattle.std.specs.Option.{option_map_or}
use Rattle.std.specs.Float.{float_zero}
use Rattle.std.specs.Float.Ieee.{Float}
use Rattle.font_tables.specs.Bytes.{number_16, table_at_32, is_number}
use Rattle.font_variations.specs.IndexMap.{index_of}
use Rattle.font_variations.specs.Rounding.{rounded}
use Rattle.font_variations.specs.VariationStore.{delta}

-- a table of major version 1 with an offset for each of its maps
abbrev pub metrics_table : List ℕ → Option (List ℕ)
metrics_table table = if nat_le 20 (length table) && is_number (number_16 table 0) 1 then Some table else None

-- the deltas of the table
abbrev pub store_of : List ℕ → List ℕ
store_of table = unwrap_or (table_at_32 table 4) []

-- the delta of a glyph by a map
abbrev pub delta_by : List ℕ → List ℕ → ℕ → List ℤ → Float
delta_by table map glyph coordinates = delta (store_of table) (index_of map glyph) coordinates

-- the advance: by the map at 8, and with none by the number of the glyph
unfoldable pub advance_delta : List ℕ → ℕ → List ℤ → ℤ
advance_delta table glyph coordinates = rounded (delta_by table (unwrap_or (table_at_32 table 8) []) glyph coordinates)

-- the left or top side bearing: by the map at 12, if there is one
unfoldable pub bearing_delta : List ℕ → ℕ → List ℤ → Option ℤ
bearing_delta table glyph coordinates =
    option_map (λ map. rounded (delta_by table map glyph coordinates)) (table_at_32 table 12)

-- the vertical origin: by the map at 20, if there is one
unfoldable pub origin_delta : List ℕ → ℕ → List ℤ → Float
origin_delta table glyph coordinates =
    option_map_or (λ map. delta_by table map glyph coordinates) (table_at_32 table 20) float_zero
