-- Packed deltas.
use Rattle.std.specs.Prelude.{ℕ, ℤ, pos, List, Option, Some, ◌+◌, ◌%◌, nat_eq, nat_lt, option_map, if◌then◌else◌}
use Rattle.std.specs.Int.{w8, w32, cast_signed}
use Rattle.font_tables.specs.Bytes.{byte_at, signed_16, number_32}

-- how many deltas a run has, by the byte before it
abbrev pub deltas_in_run : ℕ → ℕ
deltas_in_run control = control % 64 + 1

-- how many bytes each of them has, by the two highest bits of that byte: one, two, none where they are all 0, or four
abbrev pub delta_size : ℕ → ℕ
delta_size control =
    if nat_lt control 64 then 1 else if nat_lt control 128 then 2 else if nat_lt control 192 then 0 else 4

-- the delta of so many bytes at the front
abbrev pub delta_of_size : ℕ → List ℕ → Option ℤ
delta_of_size size bytes =
    if nat_eq size 0 then Some (pos 0)
    else if nat_eq size 1 then option_map (λ n. cast_signed w8 n) (byte_at bytes 0)
    else if nat_eq size 2 then signed_16 bytes 0
    else option_map (λ n. cast_signed w32 n) (number_32 bytes 0)
