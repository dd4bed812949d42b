-- Literals of floats, by their bits.
use Rattle.std.proofs.Common.{◌≡◌, ℕ, refl, ap, ◌∙◌}
use Rattle.std.proofs.lemmas.Float.{of_bits-one_f32}
use Rattle.std.proofs.lemmas.Int.{to_z-of_z}
use Rattle.std.specs.Float.{float_zero, two_to}
use Rattle.std.specs.Float.Ieee.{of_bits, of_fields, odd, binary32}
use Rattle.font_variations.specs.Rounding.{half}

of_bits-half : of_bits binary32 0x3f00_0000 ≡ half
unfolding of_bits of_fields odd
of_bits-half = refl

-- one half
pub of_bits_half : (b : ℕ) → b ≡ 0x3f00_0000 → of_bits binary32 b ≡ half
of_bits_half b e = ap (of_bits binary32) e ∙ of_bits-half

of_bits-zero : of_bits binary32 0 ≡ float_zero
unfolding of_bits of_fields odd
of_bits-zero = refl

-- nothing
pub of_bits_zero : (b : ℕ) → b ≡ 0 → of_bits binary32 b ≡ float_zero
of_bits_zero b e = ap (of_bits binary32) e ∙ of_bits-zero

of_bits-power_14 : of_bits binary32 0x4680_0000 ≡ two_to 14
unfolding of_bits of_fields odd
of_bits-power_14 = refl

of_bits-power_16 : of_bits binary32 0x4780_0000 ≡ two_to 16
unfolding of_bits of_fields odd
of_bits-power_16 = refl

-- 16384 and 65536
pub of_bits_power_14 : (b : ℕ) → b ≡ 0x4680_0000 → of_bits binary32 b ≡ two_to 14
of_bits_power_14 b e = ap (of_bits binary32) e ∙ of_bits-power_14

pub of_bits_power_16 : (b : ℕ) → b ≡ 0x4780_0000 → of_bits binary32 b ≡ two_to 16
of_bits_power_16 b e = ap (of_bits binary32) e ∙ of_bits-power_16

pub ruleset powers = (of_bits_power_14, of_bits_power_16, to_z-of_z)

-- literals, and signed numbers that went through their bits
pub ruleset literals = (of_bits_zero, of_bits-one_f32, to_z-of_z)
