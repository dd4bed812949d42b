-- Literals of floats of 64 bits, and products in which a factor is nothing.
use Rattle.std.proofs.Common.{◌≡◌, ℕ, ◌+◌, List, ℤ, Option, true, false, refl, ap, add-one, ◌∙◌}
use Rattle.std.proofs.lemmas.Float.{of_bits-one_f64}
use Rattle.std.proofs.lemmas.Int.{to_z-of_z}
use Rattle.std.specs.Float.{float_zero}
use Rattle.std.specs.Prelude.{int_lt, ◌-ℤ◌}
use Rattle.std.specs.Float.Ieee.{Float, mul, div, of_bits, of_fields, odd, binary64}
pub use Rattle.font_variations.proofs.FloatLemmas.{of_bits_zero as of_bits_zero_32}
use Rattle.font_variations.proofs.RegionLemmas.{has_zero_from, has_zero_more}
use Rattle.font_variations.specs.Regions.{has_zero, is_disordered}
use Rattle.font_variations.specs.Tents.{double, factor, factor_between, is_outside, product, scalar, slope}

of_bits-zero : of_bits binary64 0 ≡ float_zero
unfolding of_bits of_fields odd
of_bits-zero = refl

pub of_bits_zero_64 : (b : ℕ) → b ≡ 0 → of_bits binary64 b ≡ float_zero
of_bits_zero_64 b e = ap (of_bits binary64) e ∙ of_bits-zero

-- literals, and signed numbers that went through their bits
pub ruleset literals = (of_bits_zero_32, of_bits_zero_64, of_bits-one_f64, to_z-of_z)

-- the product with one more factor
pub product_more : (f : ℕ → Float) (i n : ℕ) → n ≡ i + 1 → product f n ≡ mul binary64 (product f i) (f i)
product_more f i n e = rw (e, add-one) refl

pub ruleset factors = (has_zero_from, has_zero_more, product_more, of_bits_zero_32, of_bits_zero_64)

-- a tuple one of whose axes leaves nothing
pub scalar_nothing : (peaks : List ℕ) (ends : Option (List ℕ)) (axes : ℕ) (coordinates : List ℤ)
    → has_zero (factor peaks ends axes coordinates) axes ≡ true
    → scalar peaks ends axes coordinates ≡ float_zero
unfolding scalar
scalar_nothing peaks ends axes coordinates nothing = rw nothing refl

-- the slope on each side of the peak
pub slope_rises : (start peak end at : ℤ) → int_lt at peak ≡ true
    → slope start peak end at ≡ div binary64 (double (at -ℤ start)) (double (peak -ℤ start))
slope_rises start peak end at before = rw before refl

pub slope_falls : (start peak end at : ℤ) → int_lt at peak ≡ false
    → slope start peak end at ≡ div binary64 (double (end -ℤ at)) (double (end -ℤ peak))
slope_falls start peak end at behind = rw behind refl

-- outside of the ends, and between them
pub factor_between-nothing : (start peak end at : ℤ) → is_disordered start peak end ≡ false
    → is_outside start end at ≡ true
    → factor_between start peak end at ≡ float_zero
factor_between-nothing start peak end at ordered outside = rw (ordered, outside) refl

pub factor_between-slope : (start peak end at : ℤ) → is_disordered start peak end ≡ false
    → is_outside start end at ≡ false
    → factor_between start peak end at ≡ slope start peak end at
factor_between-slope start peak end at ordered inside = rw (ordered, inside) refl
