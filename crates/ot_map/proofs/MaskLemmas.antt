-- Powers of two, as the bits of a mask.
use Rattle.std.proofs.Common.{◌≡◌, true, refl, nat_lt, ℕ, ◌+◌, ◌*◌, ◌/◌, ◌%◌, ◌^◌, ◌<◌, ◌≤◌, arith, lit<, inl, inr}
use Rattle.std.proofs.Math.Nat.{div-eq_of_lt, pow-le-pow_right, mod-eq_of_lt, mod-lt, mul-lt-mul_of_pos_right}
use Rattle.std.proofs.lemmas.Nat.{pow_pos, pow-add, shr_split}
use Rattle.std.proofs.lemmas.Bool.{cases_lt}
use Rattle.std.proofs.lemmas.Bool.Decides.{nat_tests}
use Rattle.font_tables.proofs.RowLemmas.{NoneBelow, first_below-none, first_below-some}
use Rattle.ot_map.specs.Masks.{bits_needed}

pub power_le : (i j : ℕ) → i ≤ j → 2 ^ i ≤ 2 ^ j
power_le i j le = pow-le-pow_right (lit< tt) le

pub power_at_most : (i : ℕ) → i ≤ 32 → 2 ^ i ≤ 4294967296
power_at_most i le = power_le i 32 le

pub mul_power_shifted : (i : ℕ) → i ≤ 32 → 1 * 2 ^ i % 18446744073709551616 ≡ 2 ^ i
mul_power_shifted i le =
    let fits : 2 ^ i < 18446744073709551616 = let most = power_at_most i le in omega arith in
    let one : 1 * 2 ^ i ≡ 2 ^ i = omega arith in
    rw one (mod-eq_of_lt fits)

-- a value in its bits is below the bit above them
pub value_below : (value shift count : ℕ) → shift + count ≤ 32 → value % 2 ^ count * 2 ^ shift < 4294967296
value_below value shift count inside =
    let low : value % 2 ^ count < 2 ^ count = mod-lt value (pow_pos count) in
    let product : value % 2 ^ count * 2 ^ shift < 2 ^ count * 2 ^ shift = mul-lt-mul_of_pos_right low (pow_pos shift) in
    let whole : 2 ^ (count + shift) ≡ 2 ^ count * 2 ^ shift = pow-add 2 count shift in
    let most : 2 ^ (count + shift) ≤ 4294967296 = power_at_most (count + shift) (omega arith) in
    omega arith

-- ---- the bits of a value, counted from the lowest

-- the last of the bits below this one that are 1, and one more
pub record IsCounted (value bit count : ℕ) : Type 0 where
  pub most : count ≤ bit
  pub enough : value < 2 ^ bit → value < 2 ^ count
  pub whole : 2 ^ bit ≤ value → count ≡ bit
  pub least : (fewer : ℕ) → fewer < count → 2 ^ fewer ≤ value

reaches : (value bit : ℕ) → ¬ (value / 2 ^ bit ≡ 0) → 2 ^ bit ≤ value
reaches value bit some = elim (cases_lt value (2 ^ bit)) [
  | inl low ↦ absurd (some (div-eq_of_lt low))
  | inr high ↦ high
]

falls_short : (value bit : ℕ) → value / 2 ^ bit ≡ 0 → value < 2 ^ bit
falls_short value bit none =
    let whole : 0 * 2 ^ bit + value % 2 ^ bit ≡ value = rw none at (shr_split value bit) in
    let low : value % 2 ^ bit < 2 ^ bit = mod-lt value (pow_pos bit) in
    omega arith

pub counted_more : (value bit : ℕ) → ¬ (value / 2 ^ bit ≡ 0) → IsCounted value (bit + 1) (bit + 1)
counted_more value bit some = record {
  most = omega arith;
  enough = λ h. h;
  whole = λ h. omega arith;
  least = λ fewer under.
      let low : 2 ^ fewer ≤ 2 ^ bit = power_le fewer bit (omega arith) in
      let high : 2 ^ bit ≤ value = reaches value bit some in
      omega arith;
}

pub counted_kept : (value bit count : ℕ) → value / 2 ^ bit ≡ 0 → IsCounted value bit count
    → IsCounted value (bit + 1) count
counted_kept value bit count none before =
    let short : value < 2 ^ bit = falls_short value bit none in
    let up : 2 ^ bit ≤ 2 ^ (bit + 1) = power_le bit (bit + 1) (omega arith) in
    record {
      most = let most = before.most in omega arith;
      enough = λ h. before.enough short;
      whole = λ h. absurd (omega arith);
      least = before.least;
    }

none_fewer : (value count : ℕ) → ((fewer : ℕ) → fewer < count → 2 ^ fewer ≤ value) → NoneBelow (λ n. nat_lt value (2 ^ n)) count
none_fewer value count least = record {
  fails = λ n less. let high = least n less in grind (arith, nat_tests, high);
}

-- after all eight bits
pub counted_all : (value count : ℕ) → IsCounted value 8 count → count ≡ bits_needed value
unfolding bits_needed
counted_all value count it =
    elim (cases_lt count 8) [
      | inl less ↦
          let fits : value < 2 ^ count = elim (cases_lt value (2 ^ 8)) [
            | inl low ↦ it.enough low
            | inr high ↦ absurd (let whole = it.whole high in omega (arith, whole, less))
          ] in
          let passes : nat_lt value (2 ^ count) ≡ true = grind (arith, nat_tests, fits) in
          rw (first_below-some (λ n. nat_lt value (2 ^ n)) 8 count less passes (none_fewer value count it.least)) refl
      | inr all ↦
          let most = it.most in
          let e : count ≡ 8 = omega (arith, all, most) in
          let none = none_fewer value 8 (λ n under. it.least n (omega (arith, under, e))) in
          rw (first_below-none (λ n. nat_lt value (2 ^ n)) 8 none) e
    ]
