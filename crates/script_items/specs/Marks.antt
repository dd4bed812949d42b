-- Marks and their classes, by the properties that are kept of each character.
use Rattle.std.specs.Prelude.{ℕ, ◌*◌, ◌/◌, ◌%◌, ◌==◌, ◌||◌, Bool, bit_and, bit_or, if◌then◌else◌}
use Rattle.rb_glyph.specs.Fields.{field, with_field}
use Rattle.rb_glyph.specs.declared.info.hb_glyph_info_t.{hb_glyph_info_t}

-- the number of the general category, which the five lowest bits of the properties have
abbrev pub category : hb_glyph_info_t → ℕ
category g = bit_and (field g.var2 0 16) 0x1F

-- a mark is a spacing, an enclosing or a nonspacing one
abbrev pub is_mark : hb_glyph_info_t → Bool
is_mark g = category g == 10 || (category g == 11 || category g == 12)

-- a mark that takes no part in joining, or a format character (HarfBuzz's `get_joining_type`)
abbrev pub is_mark_or_format : hb_glyph_info_t → Bool
is_mark_or_format g = category g == 12 || (category g == 11 || category g == 1)

-- a mark without width
abbrev pub is_nonspacing : hb_glyph_info_t → Bool
is_nonspacing g = category g == 12

-- the class that is kept of a mark in the high byte of its properties; any other character has class 0
abbrev pub kept_class : hb_glyph_info_t → ℕ
kept_class g = if is_mark g then field g.var2 0 16 / 256 else 0

-- the mark with this class, by its lowest 8 bits; any other character stays
abbrev pub with_class : ℕ → hb_glyph_info_t → hb_glyph_info_t
with_class class g =
    if is_mark g then record g { var2 = with_field g.var2 0 16 (bit_or (class % 256 * 256) (bit_and (field g.var2 0 16) 0xFF)) }
    else g
