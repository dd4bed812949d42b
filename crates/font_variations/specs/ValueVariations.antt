-- By how much a number of a whole font changes (OpenType specification, "MVAR - Metrics Variations Table").
use Rattle.std.specs.Prelude.{ℕ, ℤ, List, [], Option, None, Bool, ◌+◌, ◌*◌, ◌&&◌, nat_le, unwrap_or, option_and_then, if◌then◌else◌}
use Rattle.std.specs.Option.{option_map_or}
use Rattle.std.specs.Float.{float_zero}
use Rattle.std.specs.Float.Ieee.{Float}
use Rattle.font_tables.specs.Bytes.{number_16, number_32, table_at_16, is_number}
use Rattle.font_tables.specs.Rows.{first_below}
use Rattle.font_variations.specs.VariationStore.{delta}

-- how many bytes a record has
abbrev pub record_size : List ℕ → ℕ
record_size table = unwrap_or (number_16 table 6) 0

-- whether a record is for a tag
abbrev pub is_for_tag : List ℕ → ℕ → ℕ → Bool
is_for_tag table tag row = is_number (number_32 table (12 + record_size table * row)) tag

-- a table of major version 1 whose records hold a tag and a delta set
abbrev pub is_mvar : List ℕ → Bool
is_mvar table = is_number (number_16 table 0) 1 && nat_le 8 (record_size table)

-- the delta set of the first record for a tag
unfoldable pub index_of : List ℕ → ℕ → Option ℕ
index_of table tag =
    if is_mvar table
    then option_and_then (λ row. number_32 table (12 + record_size table * row + 4))
    (first_below (is_for_tag table tag) (unwrap_or (number_16 table 8) 0)) else None

-- by how much the number of a tag changes
unfoldable pub value_delta : List ℕ → ℕ → List ℤ → Float
value_delta table tag coordinates =
    option_map_or (λ index. delta (unwrap_or (table_at_16 table 10) []) index coordinates) (index_of table tag) float_zero
