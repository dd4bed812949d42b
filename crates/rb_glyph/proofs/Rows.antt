-- Worked rows of the definitions, which compute.
use Rattle.std.proofs.Common.{◌≡◌, refl, inl, inr, lit<, lit≤}
use Rattle.std.specs.Prelude.{pos, negsuc}
use Rattle.rb_glyph.specs.Fields.{field, with_field, signed_of_field, field_of_signed}
use Rattle.rb_glyph.specs.Hangul.{HangulComposes}

-- the glyph properties, the ligature properties and the syllable of one word
properties_row : field 0x7856_1234 0 16 ≡ 0x1234
properties_row = refl

ligature_row : field 0x7856_1234 16 8 ≡ 0x56
ligature_row = refl

syllable_row : field 0x7856_1234 24 8 ≡ 0x78
syllable_row = refl

filled_row : with_field (with_field (with_field 0 0 16 0x1234) 16 8 0x56) 24 8 0x78 ≡ 0x7856_1234
filled_row = refl

-- a chain of -1, and beside it a type of 2
chain_row : with_field (with_field 0 0 16 (field_of_signed 16 (negsuc 0))) 16 8 2 ≡ 0x0002_FFFF
chain_row = refl

minus_one_row : signed_of_field 16 0xFFFF ≡ negsuc 0
minus_one_row = refl

least_row : signed_of_field 16 0x8000 ≡ negsuc 32767
least_row = refl

greatest_row : signed_of_field 16 0x7FFF ≡ pos 32767
greatest_row = refl

-- the first syllable, and the last
first_syllable_row : HangulComposes 0xAC00 0x1100 0x1161
first_syllable_row =
    inl record { i = 0; j = 0; leading = lit< tt; vowel = lit< tt; syllable = refl; first = refl; second = refl }

last_syllable_row : HangulComposes 0xD7A3 0xD788 0x11C2
last_syllable_row = inr record {
  i = 18;
  j = 20;
  t = 27;
  leading = lit< tt;
  vowel = lit< tt;
  some = lit≤ tt;
  trailing = lit< tt;
  first = refl;
  syllable = refl;
  second = refl;
}
