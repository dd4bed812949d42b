-- Packed numbers of points.
use Rattle.std.specs.Prelude.{ℕ, List, Option, Some, Bool, ◌+◌, ◌-◌, ◌*◌, ◌%◌, nat_lt, nat_le, option_map, option_and_then, if◌then◌else◌}
use Rattle.font_tables.specs.Bytes.{byte_at}

-- how many numbers a list has: a byte below 128, or else the lower 15 bits of two bytes
abbrev pub declared_points : List ℕ → Option ℕ
declared_points bytes =
    option_and_then (λ first. if nat_lt first 128 then Some first
    else option_map (λ second. (first - 128) * 256 + second) (byte_at bytes 1)) (byte_at bytes 0)

-- how many numbers a run has, and whether each of them has two bytes, by the byte before it
abbrev pub points_in_run : ℕ → ℕ
points_in_run control = control % 128 + 1

abbrev pub are_wide : ℕ → Bool
are_wide control = nat_le 128 control
