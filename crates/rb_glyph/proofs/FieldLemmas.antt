-- Fields as the code reads and writes them, and the laws of fields.
use Rattle.std.proofs.Common.{◌≡◌, ◌+◌, ◌-◌, ◌*◌, ◌/◌, ◌%◌, ◌^◌, ◌<◌, ◌≤◌, ℕ, bit_and, bit_or, sym, ap, subst, ◌∙◌}
use Rattle.std.proofs.Common.{arith, add-mul, mul_assoc, mul_comm, mod-eq_of_lt}
use Rattle.std.proofs.Math.Pow.{pow_mono, mod-mod-pow}
use Rattle.std.proofs.lemmas.Nat.{and_mask, and_block, or_block, or_shifted, or_comm, pow-add, pow_pos, shr-shr}
use Rattle.std.proofs.lemmas.Nat.{shr_split, shr_below, shl_whole, mod_below, shr_high, mod_low, field_of}
use Rattle.std.proofs.lemmas.Nat.Bits.{and_high_mask}
use Rattle.std.proofs.lemmas.Int.{ints}
use Rattle.std.specs.Prelude.{ℤ, pos, negsuc, FitsSigned}
use Rattle.std.specs.Int.{w16}
use Rattle.rb_glyph.specs.Fields.{field, with_field, signed_of_field, field_of_signed}

-- a shift and a mask read a field
pub bit_and-shift : (word from bits : ℕ) → bit_and (word / 2 ^ from) (2 ^ bits - 1) ≡ field word from bits
bit_and-shift word from bits = and_mask (word / 2 ^ from) bits

-- the complement of a field's mask, cut at the field's start
sub-mask_parts : (m n p : ℕ) → 0 < n → 0 < p → n ≤ m → m * p - 1 - (n - 1) * p ≡ (m - n) * p + (p - 1)
sub-mask_parts m n p some_n some_p h =
    let whole : m * p ≡ (m - n) * p + n * p = ap (λ x. x * p) (let e : m ≡ (m - n) + n = omega arith in e)
    ∙ add-mul (m - n) n p in
    let low : n * p ≡ (n - 1) * p + p = ap (λ x. x * p) (let e : n ≡ (n - 1) + 1 = omega arith in e)
    ∙ add-mul (n - 1) 1 p ∙ omega arith in
    omega arith

-- 2 ^ (k + n), as the parts below and in a field
mul-pow : (k n a : ℕ) → a * 2 ^ n * 2 ^ k ≡ a * 2 ^ (k + n)
mul-pow k n a = mul_assoc a (2 ^ n) (2 ^ k) ∙ ap (λ x. a * x) (mul_comm (2 ^ n) (2 ^ k) ∙ sym (pow-add 2 k n))

-- a mask's complement clears a field of a word of any width
pub bit_and-field_cleared : (width word from bits : ℕ) → from + bits ≤ width → word < 2 ^ width
    → bit_and word (2 ^ width - 1 - (2 ^ bits - 1) * 2 ^ from)
    ≡ word / 2 ^ (from + bits) * 2 ^ (from + bits) + word % 2 ^ from
bit_and-field_cleared width w k n within small =
    let m : ℕ = width - k in
    let whole : 2 ^ width ≡ 2 ^ m * 2 ^ k = ap (λ x. 2 ^ x) (let e : width ≡ m + k = omega arith in e)
    ∙ pow-add 2 m k in
    let fits : n ≤ m = omega arith in
    let fits_pow : 2 ^ n ≤ 2 ^ m = pow_mono fits in
    let some : 0 < 2 ^ n = pow_pos n in
    let step : 0 < 2 ^ k = pow_pos k in
    let mask : 2 ^ width - 1 - (2 ^ n - 1) * 2 ^ k ≡ (2 ^ m - 2 ^ n) * 2 ^ k + (2 ^ k - 1) =
    ap (λ x. x - 1 - (2 ^ n - 1) * 2 ^ k) whole ∙ sub-mask_parts (2 ^ m) (2 ^ n) (2 ^ k) some step fits_pow in
    let parts : w ≡ w / 2 ^ k * 2 ^ k + w % 2 ^ k = sym (shr_split w k) in
    let low : w % 2 ^ k < 2 ^ k = mod_below w (2 ^ k) step in
    let ones : 2 ^ k - 1 < 2 ^ k = omega arith in
    let high_small : w / 2 ^ k < 2 ^ m = shr_below w m k (subst (λ x. w < x) (whole ∙ sym (pow-add 2 m k)) small) in
    let high : bit_and (w / 2 ^ k) (2 ^ m - 2 ^ n) ≡ w / 2 ^ (k + n) * 2 ^ n =
    and_high_mask m n fits (w / 2 ^ k) high_small ∙ ap (λ x. x * 2 ^ n) (shr-shr w k n) in
    let rest : bit_and (w % 2 ^ k) (2 ^ k - 1) ≡ w % 2 ^ k = and_mask (w % 2 ^ k) k ∙ mod-eq_of_lt low in
    ap (λ x. bit_and x (2 ^ width - 1 - (2 ^ n - 1) * 2 ^ k)) parts
    ∙ ap (λ x. bit_and (w / 2 ^ k * 2 ^ k + w % 2 ^ k) x) mask
    ∙ and_block k (w / 2 ^ k) (2 ^ m - 2 ^ n) (w % 2 ^ k) (2 ^ k - 1) low ones
    ∙ ap (λ x. x * 2 ^ k + bit_and (w % 2 ^ k) (2 ^ k - 1)) high
    ∙ ap (λ x. w / 2 ^ (k + n) * 2 ^ n * 2 ^ k + x) rest
    ∙ ap (λ x. x + w % 2 ^ k) (mul-pow k n (w / 2 ^ (k + n)))

-- a cleared field takes a value by `|`
bit_or-field_filled : (a r from bits value : ℕ) → r < 2 ^ from → value < 2 ^ bits
    → bit_or (a * 2 ^ (from + bits) + r) (value * 2 ^ from) ≡ a * 2 ^ (from + bits) + value * 2 ^ from + r
bit_or-field_filled a r k n v low fits =
    let nothing : 0 < 2 ^ k = pow_pos k in
    let whole : bit_or r 0 ≡ r = or_comm r 0 in
    let top : a * 2 ^ (k + n) ≡ a * 2 ^ n * 2 ^ k = sym (mul-pow k n a) in
    let moved : v * 2 ^ k ≡ v * 2 ^ k + 0 = omega arith in
    ap (λ x. bit_or (x + r) (v * 2 ^ k)) top
    ∙ ap (λ x. bit_or (a * 2 ^ n * 2 ^ k + r) x) moved
    ∙ or_block k (a * 2 ^ n) v r 0 low nothing
    ∙ ap (λ x. x * 2 ^ k + bit_or r 0) (or_shifted a n v fits)
    ∙ ap (λ x. (a * 2 ^ n + v) * 2 ^ k + x) whole
    ∙ ap (λ x. x + r) (add-mul (a * 2 ^ n) v (2 ^ k))
    ∙ ap (λ x. x + v * 2 ^ k + r) (mul-pow k n a)

-- clearing by a mask and setting by `|` write a field
pub bit_or-mask : (word from bits value : ℕ) → from + bits ≤ 32 → word < 2 ^ 32 → value < 2 ^ bits
    → bit_or (bit_and word (2 ^ 32 - 1 - (2 ^ bits - 1) * 2 ^ from % 2 ^ 32)) (value * 2 ^ from % 2 ^ 32)
    ≡ with_field word from bits value
bit_or-mask w k n v within small fits =
    let some : 0 < 2 ^ n = pow_pos n in
    let ones : 2 ^ n - 1 < 2 ^ n = omega arith in
    let room : n + k ≤ 32 = omega arith in
    ap (λ x. bit_or (bit_and w (2 ^ 32 - 1 - x)) (v * 2 ^ k % 2 ^ 32)) (shl_whole (2 ^ n - 1) n k 32 ones room)
    ∙ ap (λ x. bit_or (bit_and w (2 ^ 32 - 1 - (2 ^ n - 1) * 2 ^ k)) x) (shl_whole v n k 32 fits room)
    ∙ ap (λ x. bit_or x (v * 2 ^ k)) (bit_and-field_cleared 32 w k n within small)
    ∙ bit_or-field_filled (w / 2 ^ (k + n)) (w % 2 ^ k) k n v (mod_below w (2 ^ k) (pow_pos k)) fits

-- a word with a field set, by its parts
module _ (word from bits value : ℕ) (fits : value < 2 ^ bits) where
  low_part : with_field word from bits value % 2 ^ from ≡ word % 2 ^ from
  low_part =
      ap (λ x. (x + value * 2 ^ from + word % 2 ^ from) % 2 ^ from)
      (sym (mul-pow from bits (word / 2 ^ (from + bits))))
      ∙ ap (λ x. (x + word % 2 ^ from) % 2 ^ from)
      (sym (add-mul (word / 2 ^ (from + bits) * 2 ^ bits) value (2 ^ from)))
      ∙ mod_low (word / 2 ^ (from + bits) * 2 ^ bits + value) from (word % 2 ^ from)
      (mod_below word (2 ^ from) (pow_pos from))

  high_parts : with_field word from bits value / 2 ^ from ≡ word / 2 ^ (from + bits) * 2 ^ bits + value
  high_parts =
      ap (λ x. (x + value * 2 ^ from + word % 2 ^ from) / 2 ^ from)
      (sym (mul-pow from bits (word / 2 ^ (from + bits))))
      ∙ ap (λ x. (x + word % 2 ^ from) / 2 ^ from)
      (sym (add-mul (word / 2 ^ (from + bits) * 2 ^ bits) value (2 ^ from)))
      ∙ shr_high (word / 2 ^ (from + bits) * 2 ^ bits + value) from (word % 2 ^ from)
      (mod_below word (2 ^ from) (pow_pos from))

  pub field_set : field (with_field word from bits value) from bits ≡ value
  field_set = ap (λ x. x % 2 ^ bits) high_parts ∙ mod_low (word / 2 ^ (from + bits)) bits value fits

  top_part : with_field word from bits value / 2 ^ (from + bits) ≡ word / 2 ^ (from + bits)
  top_part =
      sym (shr-shr (with_field word from bits value) from bits)
      ∙ ap (λ x. x / 2 ^ bits) high_parts
      ∙ shr_high (word / 2 ^ (from + bits)) bits value fits

  pub field_above : (other size : ℕ) → from + bits ≤ other
      → field (with_field word from bits value) other size ≡ field word other size
  field_above other size h =
      let gap : ℕ = other - (from + bits) in
      let at : other ≡ from + bits + gap = omega arith in
      ap (λ x. with_field word from bits value / 2 ^ x % 2 ^ size) at
      ∙ ap (λ x. x % 2 ^ size)
      (sym (shr-shr (with_field word from bits value) (from + bits) gap) ∙ ap (λ x. x / 2 ^ gap) top_part
      ∙ shr-shr word (from + bits) gap)
      ∙ ap (λ x. word / 2 ^ x % 2 ^ size) (sym at)

  pub field_below : (other size : ℕ) → other + size ≤ from
      → field (with_field word from bits value) other size ≡ field word other size
  field_below other size h = same_low (with_field word from bits value)
      ∙ ap (λ x. x % 2 ^ (size + other) / 2 ^ other) low_part ∙ sym (same_low word) where
        shorter : (x : ℕ) → x % 2 ^ (size + other) ≡ x % 2 ^ from % 2 ^ (size + other)
        shorter x =
            let gap : ℕ = from - (size + other) in
            let at : gap + (size + other) ≡ from = omega arith in
            sym (mod-mod-pow x gap (size + other)) ∙ ap (λ k. x % 2 ^ k % 2 ^ (size + other)) at

        same_low : (x : ℕ) → x / 2 ^ other % 2 ^ size ≡ x % 2 ^ from % 2 ^ (size + other) / 2 ^ other
        same_low x = sym (field_of x size other) ∙ ap (λ y. y / 2 ^ other) (shorter x)

pub signed_of_field-whole : (value : ℤ) → FitsSigned w16 value → signed_of_field 16 (field_of_signed 16 value) ≡ value
signed_of_field-whole (pos n) h = grind (arith, ints)
signed_of_field-whole (negsuc n) h = grind (arith, ints)

-- what clears a bit of a field of 16 bits clears it in the word
pub with_field-bit_cleared : (word : ℕ)
    → with_field word 0 16 (bit_and (field word 0 16) (2 ^ 16 - 1 - 64)) ≡ with_field word 6 1 0
with_field-bit_cleared word =
    let low : ℕ = field word 0 16 in
    let small : low < 2 ^ 16 = omega arith in
    let cleared : bit_and low (2 ^ 16 - 1 - 64) ≡ low / 2 ^ 7 * 2 ^ 7 + low % 2 ^ 6 =
    bit_and-field_cleared 16 low 6 1 (omega arith) small in
    ap (with_field word 0 16) cleared ∙ omega arith
