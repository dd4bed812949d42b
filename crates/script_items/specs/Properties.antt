-- The properties that a character is given before it is shaped (HarfBuzz, `_hb_glyph_info_set_unicode_props`).
use Rattle.std.specs.Prelude.{ℕ, Bool, not, List, [], ◌∷◌, ◌==◌, ◌&&◌, bit_and, if◌then◌else◌}
use lib.Utf8.{scalar}
use Rattle.ucd_normal.specs.CanonicalCombiningClass.{canonical_combining_class}
use Rattle.rb_glyph.specs.Fields.{field, with_field}
use Rattle.rb_glyph.specs.UnicodeProps.{props_word, props_scratch}
use Rattle.rb_glyph.specs.declared.info.hb_glyph_info_t.{hb_glyph_info_t}
use Rattle.rb_glyph.specs.declared.flag_sets.TheConstants.UnicodeProps.{IGNORABLE}
use Rattle.rb_glyph.specs.declared.flag_sets.TheConstants.GlyphPropsFlags.{SUBSTITUTED}

-- the combining class of a character; the Telugu length marks have those that HarfBuzz reorders them by, before a halant
abbrev pub class_of : ℕ → ℕ
class_of c = if c == 0xC55 then 4 else if c == 0xC56 then 5 else canonical_combining_class c

-- the table of classes that has its row
abbrev pub class_row : ℕ → List (ℕ × ℕ)
class_row c = (c, class_of c) ∷ []

-- the word of a character's properties; a number that is no character has none
unfoldable pub properties_of : ℕ → ℕ
properties_of c = if scalar c then props_word c (class_row c) else 0

-- the scratch flags of a text, once the character was read
unfoldable pub remembered : ℕ → ℕ → ℕ
remembered c flags = if scalar c then props_scratch c flags else flags

-- the character with its properties
abbrev pub with_properties : hb_glyph_info_t → hb_glyph_info_t
with_properties g = record g { var2 = with_field g.var2 0 16 (properties_of g.glyph_id) }

-- the glyph is that of a character which is invisible by default, and no lookup put it there
abbrev pub is_default_ignorable : hb_glyph_info_t → Bool
is_default_ignorable g = not (bit_and (field g.var2 0 16) IGNORABLE.0 == 0) && (bit_and (field g.var1 0 16) SUBSTITUTED.0 == 0)

-- the character is visible by default
abbrev pub visible : hb_glyph_info_t → hb_glyph_info_t
visible g = record g { var2 = with_field g.var2 0 16 (bit_and (field g.var2 0 16) 0xFFDF) }
