-- Lengths of a font at a size of its em.
use Rattle.std.specs.Prelude.{ℕ, ℤ, pos, ◌+ℤ◌, ◌*ℤ◌, ◌/◌, max, int_div}
use Rattle.std.specs.Int.{int_shr, int_div_euclid, saturate_signed, w32, w64}

-- how long 2^16 font units are where an em has this length; a font with no units is taken to have one
abbrev pub multiplier : ℤ → ℕ → ℤ
multiplier size units_per_em = int_div (size *ℤ pos 65536) (pos (max units_per_em 1))

-- a number of font units by such a length, rounded to the nearest number, and up between two; what is past 64 or 32 bits is
-- the nearest number of as many bits
abbrev pub multiplied : ℤ → ℤ → ℤ
multiplied value multiplier =
    let product = saturate_signed w64 (value *ℤ multiplier) in
    saturate_signed w32 (int_shr (saturate_signed w64 (product +ℤ pos 32768)) 16)

-- a number of font units where an em has this length
abbrev pub em_scale : ℤ → ℤ → ℕ → ℤ
em_scale value size units_per_em = multiplied value (multiplier size units_per_em)

-- the whole number nearest to so many font units where an em has this length, and the greater one between two; what is past
-- 64 or 32 bits is the nearest number of as many bits
abbrev pub distance : ℤ → ℤ → ℕ → ℤ
distance value size units_per_em =
    let units = max units_per_em 1 in
    let product = saturate_signed w64 (value *ℤ size) in
    saturate_signed w32 (int_div_euclid (saturate_signed w64 (product +ℤ pos (units / 2))) (pos units))
