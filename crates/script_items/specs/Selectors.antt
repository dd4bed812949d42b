-- Variation selectors that a font does not know, by the properties that are kept of each character.
use Rattle.std.specs.Prelude.{ℕ, ◌==◌, ◌&&◌, Bool, not, bit_and, bit_or}
use Rattle.rb_glyph.specs.Fields.{field, with_field}
use Rattle.rb_glyph.specs.declared.info.hb_glyph_info_t.{hb_glyph_info_t}
use Rattle.script_items.specs.Marks.{category}

-- it is a format character with a flag of its own
abbrev pub is_unknown_selector : hb_glyph_info_t → Bool
is_unknown_selector g = category g == 1 && not (bit_and (field g.var2 0 16) 0x400 == 0)

-- the character with this general category, and nothing in the high byte of its properties
abbrev pub with_category : ℕ → hb_glyph_info_t → hb_glyph_info_t
with_category c g = record g { var2 = with_field g.var2 0 16 (bit_or c (bit_and (field g.var2 0 16) 0xE0)) }

-- the character as a format character with that flag
abbrev pub unknown_selector : hb_glyph_info_t → hb_glyph_info_t
unknown_selector g =
    let h = with_category 1 g in
    record h { var2 = with_field h.var2 0 16 (bit_or (field h.var2 0 16) 0x400) }
