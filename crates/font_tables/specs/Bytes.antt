-- Numbers at places of a table, big endian, and the tables that offsets lead to.
use Rattle.std.specs.Prelude.{ℕ, ℤ, List, Option, Some, None, ◌+◌, ◌*◌, slice_index, length, drop, nat_lt, nat_eq, if◌then◌else◌, Bool, false}
use Rattle.std.specs.Prelude.{option_map, option_and_then, slice_get}
use Rattle.std.specs.Int.{w16, cast_signed}

-- the byte at a place
unfoldable pub byte_at : List ℕ → ℕ → Option ℕ
byte_at bs i = slice_get bs i

-- the number of 16 bits at a place, its high byte first
unfoldable pub number_16 : List ℕ → ℕ → Option ℕ
number_16 bs i =
    if nat_lt (i + 1) (length bs) then Some (slice_index bs i * 256 + slice_index bs (i + 1)) else None

-- the number of 24 bits at a place, its high byte first
unfoldable pub number_24 : List ℕ → ℕ → Option ℕ
number_24 bs i =
    if nat_lt (i + 2) (length bs)
    then Some (slice_index bs i * 65536 + slice_index bs (i + 1) * 256 + slice_index bs (i + 2)) else None

-- the number of 32 bits at a place, its high byte first
unfoldable pub number_32 : List ℕ → ℕ → Option ℕ
number_32 bs i =
    if nat_lt (i + 3) (length bs)
    then Some ((slice_index bs i * 256 + slice_index bs (i + 1)) * 65536
    + (slice_index bs (i + 2) * 256 + slice_index bs (i + 3))) else None

-- whether a number is there, and is this one
abbrev pub is_number : Option ℕ → ℕ → Bool
is_number None n = false
is_number (Some m) n = nat_eq m n

-- the signed number of 16 bits at a place, in two's complement
abbrev pub signed_16 : List ℕ → ℕ → Option ℤ
signed_16 bs i = option_map (λ n. cast_signed w16 n) (number_16 bs i)

-- the table that an offset leads to, from the start of a table: an offset of 0 leads nowhere
abbrev pub table_behind : List ℕ → ℕ → Option (List ℕ)
table_behind bs offset = if nat_eq offset 0 then None else Some (drop offset bs)

-- the table that the offset of 16 bits at a place leads to
unfoldable pub table_at_16 : List ℕ → ℕ → Option (List ℕ)
table_at_16 bs i = option_and_then (table_behind bs) (number_16 bs i)

-- the table that the offset of 32 bits at a place leads to
unfoldable pub table_at_32 : List ℕ → ℕ → Option (List ℕ)
table_at_32 bs i = option_and_then (table_behind bs) (number_32 bs i)
