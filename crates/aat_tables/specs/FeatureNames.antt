-- The table `feat`: the features of a font, by their types, and the settings of each.
use Rattle.std.specs.Prelude.{◌+◌, ◌*◌, ℕ, List, Option, Bool, nat_le, unwrap_or, drop}
use Rattle.font_tables.specs.Bytes.{number_16, number_32}

-- rows of twelve bytes, from the byte 12 on: the type, how many settings there are, where they stand, and flags
abbrev pub feature_type : List ℕ → ℕ → Option ℕ
feature_type table row = number_16 table (12 + 12 * row)

abbrev pub setting_count : List ℕ → ℕ → ℕ
setting_count table row = unwrap_or (number_16 table (14 + 12 * row)) 0

abbrev pub settings_of : List ℕ → ℕ → List ℕ
settings_of table row = drop (unwrap_or (number_32 table (16 + 12 * row)) 0) table

abbrev pub flags_of : List ℕ → ℕ → ℕ
flags_of table row = unwrap_or (number_16 table (20 + 12 * row)) 0

-- bit 15: of the settings one alone is on
abbrev pub is_exclusive : ℕ → Bool
is_exclusive flags = nat_le 32768 flags
