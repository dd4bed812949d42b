-- Boxes around points: the greatest and the least float, and one more point.
use Rattle.std.proofs.Common.{◌≡◌, ℕ, true, false, pos, ◌-◌, ◌^◌, refl, ap, ◌∙◌}
use Rattle.std.proofs.lemmas.List.Sums.{fold_more}
use Rattle.std.specs.Float.Ieee.{of_bits, of_fields, odd, binary32, fin}

of_bits-most : of_bits binary32 0x7f7f_ffff ≡ fin false (2 ^ 24 - 1) (pos 104)
unfolding of_bits of_fields odd
of_bits-most = refl

of_bits-least : of_bits binary32 0xff7f_ffff ≡ fin true (2 ^ 24 - 1) (pos 104)
unfolding of_bits of_fields odd
of_bits-least = refl

pub of_bits_most : (b : ℕ) → b ≡ 0x7f7f_ffff → of_bits binary32 b ≡ fin false (2 ^ 24 - 1) (pos 104)
of_bits_most b e = ap (of_bits binary32) e ∙ of_bits-most

pub of_bits_least : (b : ℕ) → b ≡ 0xff7f_ffff → of_bits binary32 b ≡ fin true (2 ^ 24 - 1) (pos 104)
of_bits_least b e = ap (of_bits binary32) e ∙ of_bits-least

pub ruleset bounds = (of_bits_most, of_bits_least, fold_more)
