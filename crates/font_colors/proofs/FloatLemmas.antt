-- Literals of floats, by their bits.
use Rattle.std.proofs.Common.{◌≡◌, ℕ, refl, ap, ◌∙◌}
use Rattle.std.proofs.lemmas.Float.{of_bits-one_f64}
use Rattle.std.specs.Float.{minus_one, two_to}
use Rattle.std.specs.Float.Ieee.{of_bits, of_fields, odd, binary32, binary64}
use Rattle.font_variations.specs.Rounding.{half}
use Rattle.font_colors.specs.Transform.{pi, quarter, rest_of_quarter}
use Rattle.font_variations.proofs.FloatLemmas.{of_bits_zero}
use Rattle.font_variations.proofs.TentLemmas.{of_bits_zero_64}

of_bits-two : of_bits binary64 0x4000_0000_0000_0000 ≡ two_to 1
unfolding of_bits of_fields odd
of_bits-two = refl

-- two
pub of_bits_two : (b : ℕ) → b ≡ 0x4000_0000_0000_0000 → of_bits binary64 b ≡ two_to 1
of_bits_two b e = ap (of_bits binary64) e ∙ of_bits-two

pub ruleset literals = (of_bits_zero_64, of_bits-one_f64, of_bits_two)

of_bits-minus_one : of_bits binary32 0xbf80_0000 ≡ minus_one
unfolding of_bits of_fields odd
of_bits-minus_one = refl

-- minus one
pub of_bits_minus_one : (b : ℕ) → b ≡ 0xbf80_0000 → of_bits binary32 b ≡ minus_one
of_bits_minus_one b e = ap (of_bits binary32) e ∙ of_bits-minus_one

-- the sides of the box around nothing
pub ruleset sides = (of_bits_zero, of_bits_minus_one)

of_bits-pi : of_bits binary32 0x4049_0fdb ≡ pi
unfolding of_bits of_fields odd
of_bits-pi = refl

-- π
pub of_bits_pi : (b : ℕ) → b ≡ 0x4049_0fdb → of_bits binary32 b ≡ pi
of_bits_pi b e = ap (of_bits binary32) e ∙ of_bits-pi

of_bits-quarter : of_bits binary64 0x3ff9_21fb_5440_0000 ≡ quarter
unfolding of_bits of_fields odd
of_bits-quarter = refl

-- a quarter of a circle
pub of_bits_quarter : (b : ℕ) → b ≡ 0x3ff9_21fb_5440_0000 → of_bits binary64 b ≡ quarter
of_bits_quarter b e = ap (of_bits binary64) e ∙ of_bits-quarter

of_bits-rest : of_bits binary64 0x3dd0_b461_1a62_6331 ≡ rest_of_quarter
unfolding of_bits of_fields odd
of_bits-rest = refl

-- the rest of a quarter
pub of_bits_rest : (b : ℕ) → b ≡ 0x3dd0_b461_1a62_6331 → of_bits binary64 b ≡ rest_of_quarter
of_bits_rest b e = ap (of_bits binary64) e ∙ of_bits-rest

of_bits-half : of_bits binary64 0x3fe0_0000_0000_0000 ≡ half
unfolding of_bits of_fields odd
of_bits-half = refl

-- one half
pub of_bits_half : (b : ℕ) → b ≡ 0x3fe0_0000_0000_0000 → of_bits binary64 b ≡ half
of_bits_half b e = ap (of_bits binary64) e ∙ of_bits-half

of_bits-four : of_bits binary64 0x4010_0000_0000_0000 ≡ two_to 2
unfolding of_bits of_fields odd
of_bits-four = refl

-- four
pub of_bits_four : (b : ℕ) → b ≡ 0x4010_0000_0000_0000 → of_bits binary64 b ≡ two_to 2
of_bits_four b e = ap (of_bits binary64) e ∙ of_bits-four

-- the literals of angles
pub ruleset angles = (of_bits_pi, of_bits_quarter, of_bits_rest, of_bits_half, of_bits_four)
