-- Where marks stand in a font that does not position them, by combining classes of the Unicode Standard: 214 joined above, 220
-- below, 222 below at the right, 228 above at the left, 230 above, 232 above at the right.
use Rattle.std.specs.Prelude.{ℕ, Bool, ◌&&◌, ◌||◌, ◌==◌, nat_le, nat_lt, if◌then◌else◌}
use Rattle.rb_glyph.specs.declared.info.hb_glyph_info_t.{hb_glyph_info_t}
use Rattle.script_items.specs.Marks.{is_nonspacing, kept_class, with_class}

abbrev pub within : ℕ → ℕ → ℕ → Bool
within low high n = nat_le low n && nat_le n high

abbrev pub is_thai_above : ℕ → Bool
is_thai_above u = (u == 0x0E31) || (within 0x0E34 0x0E37 u || ((u == 0x0E47) || within 0x0E4C 0x0E4E u))

abbrev pub is_lao_above : ℕ → Bool
is_lao_above u = (u == 0x0EB1) || (within 0x0EB4 0x0EB7 u || ((u == 0x0EBB) || within 0x0ECC 0x0ECD u))

-- marks of Thai and Lao that have no class are placed by the character
abbrev pub class_of_character : ℕ → ℕ
class_of_character u = if is_thai_above u then 232 else if is_lao_above u then 230 else if u == 0x0EBC then 220 else 0

-- and so is the Thai virama
abbrev pub placed_by_character : ℕ → ℕ → ℕ
placed_by_character u class =
    if class == 0 then class_of_character u else if nat_lt class 200 && (u == 0x0E3A) then 222 else class

-- the classes that HarfBuzz orders points of Hebrew, kasra, and vowels of Lao and Tibetan by
abbrev pub is_ordered_below : ℕ → Bool
is_ordered_below class =
    within 15 25 class
    || ((class == 30) || ((class == 33) || ((class == 118) || ((class == 129) || (class == 131)))))

-- and marks of Arabic and Syriac, and tones of Lao
abbrev pub is_ordered_above : ℕ → Bool
is_ordered_above class =
    within 26 29 class || (within 31 32 class || (within 34 36 class || ((class == 122) || (class == 132))))

-- the Thai vowels below, the shin dot, the sin dot, the rafe, the holam, and the Thai tones
abbrev pub placed_at_a_side : ℕ → ℕ
placed_at_a_side class =
    if class == 3 then 222
    else if class == 10 then 232
    else if class == 11 then 228
    else if class == 13 then 214
    else if class == 14 then 228
    else if class == 107 then 232
    else class

abbrev pub placed_by_class : ℕ → ℕ
placed_by_class class =
    if is_ordered_below class then 220 else if is_ordered_above class then 230 else placed_at_a_side class

abbrev pub fallback_class : ℕ → ℕ → ℕ
fallback_class u class = placed_by_class (placed_by_character u class)

-- `recategorize_marks`: a mark without width has that class, and any other character stays
unfoldable pub recategorized : hb_glyph_info_t → hb_glyph_info_t
recategorized g = if is_nonspacing g then with_class (fallback_class g.glyph_id (kept_class g)) g else g
