-- The limits of a buffer: how many glyphs a side may hold, and how many operations a shaper may make. And the numbers
-- of ligatures.
use Rattle.std.specs.Prelude.{ℕ, ℤ, Option, Some, None, unwrap_or, false, ◌+◌, ◌*◌, ◌%◌, ◌==◌, ◌^◌, max, pos, nat_abs}
use Rattle.std.specs.Prelude.{nat_lt, if◌then◌else◌}
use Rattle.shaping_buffer.specs.declared.buffer.TheConstants.hb_buffer_t.{MAX_LEN_DEFAULT, MAX_LEN_FACTOR, MAX_LEN_MIN}
use Rattle.shaping_buffer.specs.declared.buffer.TheConstants.hb_buffer_t.{MAX_OPS_DEFAULT, MAX_OPS_FACTOR, MAX_OPS_MIN}
use Rattle.shaping_buffer.specs.State.{State, len}

-- `set_max_len`
abbrev pub set_max_len : ℕ → State → State
set_max_len n s = record s { max_len = n }

-- how many operations a shaper may make over so many glyphs, where that number fits
abbrev pub max_ops_for : ℕ → Option ℤ
max_ops_for n =
    let ops = nat_abs MAX_OPS_FACTOR * n in
    if nat_lt ops (2 ^ 31) then Some (pos (max ops (nat_abs MAX_OPS_MIN))) else None

-- `enter`: the limits follow the length, where the product fits; else they stay
abbrev pub enter : State → State
enter s =
    record s {
      serial = 0;
      shaping_failed = false;
      scratch_flags = 0;
      max_len =
          (if nat_lt (MAX_LEN_FACTOR * len s) (2 ^ 64) then max (MAX_LEN_FACTOR * len s) MAX_LEN_MIN else s.max_len);
      max_ops = unwrap_or (max_ops_for (len s)) s.max_ops;
    }

-- `leave`: the limits are as in a new buffer, but that the list still fits
abbrev pub leave : State → State
leave s = record s { serial = 0; max_len = max MAX_LEN_DEFAULT (len s); max_ops = MAX_OPS_DEFAULT }

-- the number after this one; 1 follows the last
abbrev pub next_serial : ℕ → ℕ
next_serial n = if n == 255 then 1 else n + 1

-- the next number whose low three bits are not 0
abbrev pub next_lig_serial : ℕ → ℕ
next_lig_serial n = if next_serial n % 8 == 0 then next_serial (next_serial n) else next_serial n

-- `allocate_lig_id`
abbrev pub allocate_lig_id : State → State
allocate_lig_id s = record s { serial = next_lig_serial s.serial }
