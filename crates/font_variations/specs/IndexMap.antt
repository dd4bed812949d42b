-- Which delta set is for which number, by a DeltaSetIndexMap table.
use Rattle.std.specs.Prelude.{ℕ, List, Option, None, ◌+◌, ◌-◌, ◌*◌, ◌/◌, ◌%◌, ◌^◌, nat_eq, min, unwrap_or, if◌then◌else◌}
use Rattle.font_tables.specs.Bytes.{byte_at, number_16, number_24, number_32, is_number}

-- how many entries a map has; none where it is of another format than 0 and 1
abbrev pub entry_count : List ℕ → ℕ
entry_count table =
    if is_number (byte_at table 0) 0 then unwrap_or (number_16 table 2) 0
    else if is_number (byte_at table 0) 1 then unwrap_or (number_32 table 2) 0 else 0

-- where the entries begin
abbrev pub entries_start : List ℕ → ℕ
entries_start table = if is_number (byte_at table 0) 0 then 4 else 6

-- how many bytes an entry has: one more than the bits 4 and 5 of its format
abbrev pub entry_size : List ℕ → ℕ
entry_size table = unwrap_or (byte_at table 1) 0 / 16 % 4 + 1

-- how many bits of an entry are the number of a row: one more than the lowest four bits of its format
abbrev pub row_bits : List ℕ → ℕ
row_bits table = unwrap_or (byte_at table 1) 0 % 16 + 1

-- a number of one to four bytes at a place, its high byte first
unfoldable pub number_of_size : ℕ → List ℕ → ℕ → Option ℕ
number_of_size size table at =
    if nat_eq size 1 then byte_at table at
    else if nat_eq size 2 then number_16 table at
    else if nat_eq size 3 then number_24 table at
    else if nat_eq size 4 then number_32 table at else None

-- the entry of a number, which is that of the last one for the numbers behind it; 0 outside of the table
abbrev pub entry : List ℕ → ℕ → ℕ
entry table number =
    unwrap_or (number_of_size (entry_size table) table (entries_start table + entry_size table * number)) 0

-- a number of a table of deltas, in the upper 16 bits, and of a row of it
abbrev pub parted : ℕ → ℕ → ℕ
parted entry bits = entry / 2 ^ bits % 65536 * 65536 + entry % 2 ^ bits

-- the delta set of a number: itself where there are no entries
unfoldable pub index_of : List ℕ → ℕ → ℕ
index_of table number =
    if nat_eq (entry_count table) 0 then number
    else parted (entry table (min number (entry_count table - 1))) (row_bits table)
