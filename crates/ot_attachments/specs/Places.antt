-- Places in a line of glyphs.
use Rattle.std.specs.Prelude.{ℕ, zero, suc, Bool, false, ◌+◌, ◌-◌, ◌^◌, ◌||◌, min}

-- the place behind a glyph, where a lookup goes on
abbrev pub behind : ℕ → ℕ
behind place = min (place + 1) (2 ^ 64 - 1)

-- whether one of so many places from a place on passes a test
abbrev pub some_place : (ℕ → Bool) → ℕ → ℕ → Bool
some_place test from zero = false
some_place test from (suc count) = test from || some_place test (from + 1) count
