-- Bit fields: parts of a word that stand for numbers of their own.
use Rattle.std.specs.Prelude.{ℕ, ℤ, pos, negsuc, suc, ◌≡◌, ◌+◌, ◌-◌, ◌*◌, ◌/◌, ◌%◌, ◌^◌, ◌-ℤ◌, ◌<◌, ◌≤◌, nat_lt}
use Rattle.std.specs.Prelude.{if◌then◌else◌, FitsSigned}
use Rattle.std.specs.Int.{w16}

-- the field of `bits` bits that begins at bit `from`
abbrev pub field : ℕ → ℕ → ℕ → ℕ
field word from bits = word / 2 ^ from % 2 ^ bits

-- the word with this value in that field, and every other bit as it was
abbrev pub with_field : ℕ → ℕ → ℕ → ℕ → ℕ
with_field word from bits value = word / 2 ^ (from + bits) * 2 ^ (from + bits) + value * 2 ^ from + word % 2 ^ from

-- what a field stands for where it is signed: from half its range on, itself minus the range
abbrev pub signed_of_field : ℕ → ℕ → ℤ
signed_of_field bits value = if nat_lt value (2 ^ (bits - 1)) then pos value else pos value -ℤ pos (2 ^ bits)

-- the field that stands for a whole number: for a negative one, the number plus the range
abbrev pub field_of_signed : ℕ → ℤ → ℕ
field_of_signed bits (pos n) = n
field_of_signed bits (negsuc n) = 2 ^ bits - suc n

-- A field that is set holds its value, every other field stays, and a signed field of 16 bits gives back its number.
pub record FieldsKeep : Type 0 where
  pub set : (word from bits value : ℕ) → value < 2 ^ bits → field (with_field word from bits value) from bits ≡ value
  pub below : (word from bits value other size : ℕ) → value < 2 ^ bits → other + size ≤ from
      → field (with_field word from bits value) other size ≡ field word other size
  pub above : (word from bits value other size : ℕ) → value < 2 ^ bits → from + bits ≤ other
      → field (with_field word from bits value) other size ≡ field word other size
  pub whole : (value : ℤ) → FitsSigned w16 value → signed_of_field 16 (field_of_signed 16 value) ≡ value
