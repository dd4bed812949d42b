-- Which strike of a font is used: each is for a size in pixels.
use Rattle.std.specs.Prelude.{ℕ, zero, suc, Bool, ◌&&◌, ◌^◌, max, nat_eq, nat_le, nat_lt, if◌then◌else◌}

-- the size that is wanted: the greater of both directions, and where there are no pixels one above all strikes
abbrev pub wanted_size : ℕ → ℕ → ℕ
wanted_size across upwards = if nat_eq (max across upwards) 0 then 2 ^ 30 else max across upwards

-- whether a size fits better than another: where the other is below what is wanted a greater one does, and else a smaller one
-- that is not below it
abbrev pub fits_better : ℕ → ℕ → ℕ → Bool
fits_better wanted size other =
    if nat_lt other wanted then nat_lt other size else nat_le wanted size && nat_lt size other

-- of so many strikes the one that fits best, and the first of those that fit alike
unfoldable pub best_strike : (ℕ → ℕ) → ℕ → ℕ → ℕ
best_strike size_of wanted zero = 0
best_strike size_of wanted (suc n) =
    if fits_better wanted (size_of n) (size_of (best_strike size_of wanted n)) then n else best_strike size_of wanted n
