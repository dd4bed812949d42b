-- Tables in lists of tables.
use Rattle.std.specs.Prelude.{ℕ, ◌+◌, ◌*◌, List, [], nat_lt, unwrap_or, if◌then◌else◌}
use Rattle.font_tables.specs.Bytes.{number_16, table_at_16}

-- the table of this number in a list of tables whose count stands at the byte 4; an empty one where there is none
unfoldable pub set_at : List ℕ → ℕ → List ℕ
set_at table index =
    if nat_lt index (unwrap_or (number_16 table 4) 0) then unwrap_or (table_at_16 table (6 + 2 * index)) [] else []
