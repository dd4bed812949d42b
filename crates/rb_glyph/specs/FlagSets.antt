-- The sets of flags, each as the number of its bits.
use Rattle.std.specs.Prelude.{ℕ, List, [], ◌∷◌, codes}
use Rattle.bitflags.specs.Sets.{Row}
use Rattle.rb_glyph.specs.declared.flag_sets.BufferFlags.{BufferFlags}
use Rattle.rb_glyph.specs.declared.flag_sets.SerializeFlags.{SerializeFlags}
use Rattle.rb_glyph.specs.declared.flag_sets.UnicodeProps.{UnicodeProps}
use Rattle.rb_glyph.specs.declared.flag_sets.GlyphPropsFlags.{GlyphPropsFlags}

-- the bits of a set of flags, for each kind of set
abbrev pub buffer_bits : BufferFlags → ℕ
buffer_bits flags = flags.0

abbrev pub serialize_bits : SerializeFlags → ℕ
serialize_bits flags = flags.0

abbrev pub unicode_bits : UnicodeProps → ℕ
unicode_bits flags = flags.0

abbrev pub glyph_props_bits : GlyphPropsFlags → ℕ
glyph_props_bits flags = flags.0

-- the flags of each kind of set, by name and bits
unfoldable pub buffer_table : List Row
buffer_table =
    (codes "BEGINNING_OF_TEXT", 0x01) ∷
    (codes "END_OF_TEXT", 0x02) ∷
    (codes "PRESERVE_DEFAULT_IGNORABLES", 0x04) ∷
    (codes "REMOVE_DEFAULT_IGNORABLES", 0x08) ∷
    (codes "DO_NOT_INSERT_DOTTED_CIRCLE", 0x10) ∷
    (codes "VERIFY", 0x20) ∷
    (codes "PRODUCE_UNSAFE_TO_CONCAT", 0x40) ∷
    (codes "PRODUCE_SAFE_TO_INSERT_TATWEEL", 0x80) ∷
    (codes "DEFINED", 0xFF) ∷ []

unfoldable pub serialize_table : List Row
serialize_table =
    (codes "NO_CLUSTERS", 1) ∷
    (codes "NO_POSITIONS", 2) ∷
    (codes "NO_GLYPH_NAMES", 4) ∷
    (codes "GLYPH_EXTENTS", 8) ∷
    (codes "GLYPH_FLAGS", 16) ∷
    (codes "NO_ADVANCES", 32) ∷
    (codes "DEFINED", 63) ∷ []

unfoldable pub unicode_table : List Row
unicode_table =
    (codes "GENERAL_CATEGORY", 0x1F) ∷
    (codes "IGNORABLE", 0x20) ∷
    (codes "HIDDEN", 0x40) ∷
    (codes "CONTINUATION", 0x80) ∷
    (codes "CF_ZWJ", 0x100) ∷
    (codes "CF_ZWNJ", 0x200) ∷
    (codes "CF_VS", 0x400) ∷ []

unfoldable pub glyph_table : List Row
glyph_table =
    (codes "BASE_GLYPH", 0x02) ∷
    (codes "LIGATURE", 0x04) ∷
    (codes "MARK", 0x08) ∷
    (codes "CLASS_MASK", 0x0E) ∷
    (codes "SUBSTITUTED", 0x10) ∷
    (codes "LIGATED", 0x20) ∷
    (codes "MULTIPLIED", 0x40) ∷
    (codes "PRESERVE", 0x70) ∷ []
