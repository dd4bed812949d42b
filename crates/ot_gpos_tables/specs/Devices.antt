-- Device tables: corrections in pixels, for some sizes in pixels.
use Rattle.std.specs.Prelude.{ℕ, ℤ, List, ◌+◌, ◌-◌, ◌*◌, ◌/◌, ◌%◌, ◌^◌, ◌&&◌, ◌||◌, nat_eq, nat_le, nat_lt}
use Rattle.std.specs.Prelude.{if◌then◌else◌, unwrap_or, Bool, pos, ◌*ℤ◌, ◌-ℤ◌, int_div, drop}
use Rattle.std.specs.Int.{w32, w64, saturate_signed}
use Rattle.font_tables.specs.Bytes.{number_16}

-- a number of so many bits, in two's complement
abbrev pub signed_of_bits : ℕ → ℕ → ℤ
signed_of_bits bits n = if nat_lt n (2 ^ (bits - 1)) then pos n else pos n -ℤ pos (2 ^ bits)

-- the value at a place among values of so many bits, which stand in words of 16 bits from the byte 6 on, the first of a
-- word in its highest bits
abbrev pub packed_value : List ℕ → ℕ → ℕ → ℤ
packed_value device bits place =
    let in_word = 16 / bits in
    let word = unwrap_or (number_16 device (6 + 2 * (place / in_word))) 0 in
    signed_of_bits bits (word / 2 ^ (16 - bits * (place % in_word + 1)) % 2 ^ bits)

-- the sizes that a device table is for: from the first of these numbers up to the second
abbrev pub is_for_size : List ℕ → ℕ → Bool
is_for_size device ppem = nat_le (unwrap_or (number_16 device 0) 0) ppem && nat_le ppem (unwrap_or (number_16 device 2) 0)

-- by how many pixels a number is corrected at this size; formats 1, 2 and 3 have values of 2, 4 and 8 bits
unfoldable pub delta_pixels : List ℕ → ℕ → ℤ
delta_pixels device ppem =
    let format = unwrap_or (number_16 device 4) 0 in
    if nat_le 1 format && nat_le format 3 && is_for_size device ppem
    then packed_value device (2 ^ format) (ppem - unwrap_or (number_16 device 0) 0) else pos 0

-- the correction by the device table that an offset leads to, where an em has so many pixels and this length
abbrev pub device_delta : List ℕ → ℕ → ℕ → ℤ → ℤ
device_delta table offset ppem size =
    if nat_eq offset 0 || nat_eq ppem 0 then pos 0
    else saturate_signed w32 (int_div (saturate_signed w64 (delta_pixels (drop offset table) ppem *ℤ size)) (pos ppem))
