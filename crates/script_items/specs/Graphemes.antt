-- Which characters make a grapheme, by the properties that are kept of each.
use Rattle.std.specs.Prelude.{◌==◌, Bool, not, bit_and, bit_or}
use Rattle.rb_glyph.specs.Fields.{field, with_field}
use Rattle.rb_glyph.specs.declared.info.hb_glyph_info_t.{hb_glyph_info_t}
use Rattle.rb_glyph.specs.declared.flag_sets.TheConstants.UnicodeProps.{CONTINUATION}

-- the character goes on with the grapheme before it
abbrev pub is_continuation : hb_glyph_info_t → Bool
is_continuation g = not (bit_and (field g.var2 0 16) CONTINUATION.0 == 0)

-- the character as a mark without width (category 12) that goes on with the grapheme before it; the high byte of its properties is cleared
unfoldable pub continuing_mark : hb_glyph_info_t → hb_glyph_info_t
continuing_mark g =
    record g { var2 = with_field g.var2 0 16 (bit_or 12 (bit_and (bit_or (field g.var2 0 16) CONTINUATION.0) 0xE0)) }

-- the second goes on with the grapheme of the first
abbrev pub is_same_grapheme : hb_glyph_info_t → hb_glyph_info_t → Bool
is_same_grapheme first second = is_continuation second
