-- Tables of layout with too many subtables. HarfBuzz counts the subtables of a table's lookups, and where there are 16,384 (its
-- HB_SANITIZE_MAX_SUBTABLES), it sets the offset of each lookup to null; where more than 32 offsets (HB_SANITIZE_MAX_EDITS) would have
-- to be set, it refuses the table.
use Rattle.std.specs.Prelude.{ℕ, zero, suc, Bool, ◌&&◌, ◌+◌, ◌*◌, List, [], length, nat_le, nat_lt, is_some, unwrap_or, if◌then◌else◌}
use Rattle.font_tables.specs.Bytes.{number_16, table_at_16}

-- the list of lookups of a table, and how many lookups it declares
abbrev pub lookup_list : List ℕ → List ℕ
lookup_list table = unwrap_or (table_at_16 table 8) []

abbrev pub lookup_count : List ℕ → ℕ
lookup_count list = unwrap_or (number_16 list 0) 0

-- how many subtables a lookup declares, if their offsets lie in the table
abbrev pub subtable_count : List ℕ → ℕ
subtable_count lookup =
    if nat_le (6 + 2 * unwrap_or (number_16 lookup 4) 0) (length lookup) then unwrap_or (number_16 lookup 4) 0 else 0

-- how many the first so many lookups of a list have
abbrev pub subtables_of_first : List ℕ → ℕ → ℕ
subtables_of_first list zero = 0
subtables_of_first list (suc n) =
    subtables_of_first list n + subtable_count (unwrap_or (table_at_16 list (2 + 2 * n)) [])

-- how many of the first so many offsets of a list are not null
abbrev pub offsets_of_first : List ℕ → ℕ → ℕ
offsets_of_first list zero = 0
offsets_of_first list (suc n) = offsets_of_first list n + (if is_some (table_at_16 list (2 + 2 * n)) then 1 else 0)

-- the lookups of a list have too many subtables
abbrev pub has_too_many : List ℕ → Bool
has_too_many list = nat_le 16384 (subtables_of_first list (lookup_count list))

-- a table is refused for its subtables
abbrev pub is_refused : List ℕ → Bool
is_refused table =
    nat_lt 32 (offsets_of_first (lookup_list table) (lookup_count (lookup_list table))) && has_too_many (lookup_list table)
