use Rattle.std.proofs.Common.{◌≡◌, ℕ, min, max, arith, bit_and, bit_or}
use Rattle.std.specs.Int.{bit_at}
use Rattle.std.proofs.lemmas.Nat.Bits.{same_from_bits, bit_at_and, bit_at_or}
use Rattle.rb_common.specs.Script.{title_case}

max-between : (x a b : ℕ) → max (min (max (min x a) b) a) b ≡ max (min x a) b
max-between x a b = omega arith

pub bit_or-masked_again : (t a b : ℕ) → bit_or (bit_and (bit_or (bit_and t a) b) a) b ≡ bit_or (bit_and t a) b
bit_or-masked_again t a b =
    same_from_bits _ _ (λ i. simp (bit_at_or, bit_at_and) (max-between (bit_at t i) (bit_at a i) (bit_at b i)))

pub title_case_again : (t : ℕ) → title_case (title_case t) ≡ title_case t
title_case_again t = bit_or-masked_again t 0xDFDFDFDF 0x00202020
