-- The constants of this crate by name, each beside its number.
use Rattle.std.specs.Prelude.{ℕ, Bool, ◌==◌, List, [], ◌∷◌}
use Rattle.std.specs.List.{list_all}
use Rattle.rb_glyph.specs.declared.hb_gc.TheConstants as gc
use Rattle.rb_glyph.specs.declared.hb_unicode_funcs_t.TheConstants as space
use Rattle.rb_glyph.specs.declared.modified_combining_class.TheConstants as class
use Rattle.rb_glyph.specs.declared.scratch.TheConstants as scratch
use Rattle.rb_glyph.specs.declared.glyph_flag.TheConstants as glyph
use Rattle.rb_glyph.specs.declared.flag_sets.TheConstants.BufferFlags as buffer
use Rattle.rb_glyph.specs.declared.flag_sets.TheConstants.SerializeFlags as serialize
use Rattle.rb_glyph.specs.declared.flag_sets.TheConstants.UnicodeProps as unicode
use Rattle.rb_glyph.specs.declared.flag_sets.TheConstants.GlyphPropsFlags as props

-- each constant has the number beside it
abbrev pub have_their_numbers : List (ℕ × ℕ) → Bool
have_their_numbers constants = list_all (λ row. row.0 == row.1) constants

-- the numbers of the general categories, of `hb_gc`
abbrev pub category_constants : List (ℕ × ℕ)
category_constants =
    (gc.RB_UNICODE_GENERAL_CATEGORY_CONTROL, 0) ∷
    (gc.RB_UNICODE_GENERAL_CATEGORY_FORMAT, 1) ∷
    (gc.RB_UNICODE_GENERAL_CATEGORY_UNASSIGNED, 2) ∷
    (gc.RB_UNICODE_GENERAL_CATEGORY_PRIVATE_USE, 3) ∷
    (gc.RB_UNICODE_GENERAL_CATEGORY_SURROGATE, 4) ∷
    (gc.RB_UNICODE_GENERAL_CATEGORY_LOWERCASE_LETTER, 5) ∷
    (gc.RB_UNICODE_GENERAL_CATEGORY_MODIFIER_LETTER, 6) ∷
    (gc.RB_UNICODE_GENERAL_CATEGORY_OTHER_LETTER, 7) ∷
    (gc.RB_UNICODE_GENERAL_CATEGORY_TITLECASE_LETTER, 8) ∷
    (gc.RB_UNICODE_GENERAL_CATEGORY_UPPERCASE_LETTER, 9) ∷
    (gc.RB_UNICODE_GENERAL_CATEGORY_SPACING_MARK, 10) ∷
    (gc.RB_UNICODE_GENERAL_CATEGORY_ENCLOSING_MARK, 11) ∷
    (gc.RB_UNICODE_GENERAL_CATEGORY_NON_SPACING_MARK, 12) ∷
    (gc.RB_UNICODE_GENERAL_CATEGORY_DECIMAL_NUMBER, 13) ∷
    (gc.RB_UNICODE_GENERAL_CATEGORY_LETTER_NUMBER, 14) ∷
    (gc.RB_UNICODE_GENERAL_CATEGORY_OTHER_NUMBER, 15) ∷
    (gc.RB_UNICODE_GENERAL_CATEGORY_CONNECT_PUNCTUATION, 16) ∷
    (gc.RB_UNICODE_GENERAL_CATEGORY_DASH_PUNCTUATION, 17) ∷
    (gc.RB_UNICODE_GENERAL_CATEGORY_CLOSE_PUNCTUATION, 18) ∷
    (gc.RB_UNICODE_GENERAL_CATEGORY_FINAL_PUNCTUATION, 19) ∷
    (gc.RB_UNICODE_GENERAL_CATEGORY_INITIAL_PUNCTUATION, 20) ∷
    (gc.RB_UNICODE_GENERAL_CATEGORY_OTHER_PUNCTUATION, 21) ∷
    (gc.RB_UNICODE_GENERAL_CATEGORY_OPEN_PUNCTUATION, 22) ∷
    (gc.RB_UNICODE_GENERAL_CATEGORY_CURRENCY_SYMBOL, 23) ∷
    (gc.RB_UNICODE_GENERAL_CATEGORY_MODIFIER_SYMBOL, 24) ∷
    (gc.RB_UNICODE_GENERAL_CATEGORY_MATH_SYMBOL, 25) ∷
    (gc.RB_UNICODE_GENERAL_CATEGORY_OTHER_SYMBOL, 26) ∷
    (gc.RB_UNICODE_GENERAL_CATEGORY_LINE_SEPARATOR, 27) ∷
    (gc.RB_UNICODE_GENERAL_CATEGORY_PARAGRAPH_SEPARATOR, 28) ∷
    (gc.RB_UNICODE_GENERAL_CATEGORY_SPACE_SEPARATOR, 29) ∷ []

-- the kinds of spaces, of `hb_unicode_funcs_t`
abbrev pub space_constants : List (ℕ × ℕ)
space_constants =
    (space.NOT_SPACE, 0) ∷ (space.SPACE_EM, 1) ∷ (space.SPACE_EM_2, 2) ∷ (space.SPACE_EM_3, 3) ∷
    (space.SPACE_EM_4, 4) ∷ (space.SPACE_EM_5, 5) ∷ (space.SPACE_EM_6, 6) ∷ (space.SPACE_EM_16, 16) ∷
    (space.SPACE_4_EM_18, 17) ∷ (space.SPACE, 18) ∷ (space.SPACE_FIGURE, 19) ∷ (space.SPACE_PUNCTUATION, 20) ∷
    (space.SPACE_NARROW, 21) ∷ []

-- the classes that marks are reordered by, of `modified_combining_class`
abbrev pub class_constants : List (ℕ × ℕ)
class_constants =
    (class.CCC10, 22) ∷ (class.CCC11, 15) ∷ (class.CCC12, 16) ∷ (class.CCC13, 17) ∷ (class.CCC14, 23) ∷
    (class.CCC15, 18) ∷ (class.CCC16, 19) ∷ (class.CCC17, 20) ∷ (class.CCC18, 21) ∷ (class.CCC19, 14) ∷
    (class.CCC20, 24) ∷ (class.CCC21, 12) ∷ (class.CCC22, 25) ∷ (class.CCC23, 13) ∷ (class.CCC24, 10) ∷
    (class.CCC25, 11) ∷ (class.CCC26, 26) ∷ (class.CCC27, 28) ∷ (class.CCC28, 29) ∷ (class.CCC29, 30) ∷
    (class.CCC30, 31) ∷ (class.CCC31, 32) ∷ (class.CCC32, 33) ∷ (class.CCC33, 27) ∷ (class.CCC34, 34) ∷
    (class.CCC35, 35) ∷ (class.CCC36, 36) ∷ (class.CCC84, 0) ∷ (class.CCC91, 0) ∷ (class.CCC103, 3) ∷
    (class.CCC107, 107) ∷ (class.CCC118, 118) ∷ (class.CCC122, 122) ∷ (class.CCC129, 129) ∷
    (class.CCC130, 132) ∷ (class.CCC132, 131) ∷ []

-- the flags of a glyph, of `glyph_flag`
abbrev pub glyph_flag_constants : List (ℕ × ℕ)
glyph_flag_constants =
    (glyph.UNSAFE_TO_BREAK, 1) ∷ (glyph.UNSAFE_TO_CONCAT, 2) ∷
    (glyph.SAFE_TO_INSERT_TATWEEL, 4) ∷ (glyph.DEFINED, 7) ∷ []

-- the scratch flags
abbrev pub scratch_constants : List (ℕ × ℕ)
scratch_constants =
    (scratch.HB_BUFFER_SCRATCH_FLAG_DEFAULT, 0) ∷
    (scratch.HB_BUFFER_SCRATCH_FLAG_HAS_NON_ASCII, 1) ∷
    (scratch.HB_BUFFER_SCRATCH_FLAG_HAS_DEFAULT_IGNORABLES, 2) ∷
    (scratch.HB_BUFFER_SCRATCH_FLAG_HAS_SPACE_FALLBACK, 4) ∷
    (scratch.HB_BUFFER_SCRATCH_FLAG_HAS_GPOS_ATTACHMENT, 8) ∷
    (scratch.HB_BUFFER_SCRATCH_FLAG_HAS_CGJ, 0x10) ∷
    (scratch.HB_BUFFER_SCRATCH_FLAG_HAS_GLYPH_FLAGS, 0x20) ∷
    (scratch.HB_BUFFER_SCRATCH_FLAG_HAS_BROKEN_SYLLABLE, 0x40) ∷
    (scratch.HB_BUFFER_SCRATCH_FLAG_HAS_VARIATION_SELECTOR_FALLBACK, 0x80) ∷
    (scratch.HB_BUFFER_SCRATCH_FLAG_SHAPER0, 0x01000000) ∷ []

-- the sets of `BufferFlags`, by their bits
abbrev pub buffer_flag_constants : List (ℕ × ℕ)
buffer_flag_constants =
    (buffer.BEGINNING_OF_TEXT.0, 0x01) ∷ (buffer.END_OF_TEXT.0, 0x02) ∷
    (buffer.PRESERVE_DEFAULT_IGNORABLES.0, 0x04) ∷ (buffer.REMOVE_DEFAULT_IGNORABLES.0, 0x08) ∷
    (buffer.DO_NOT_INSERT_DOTTED_CIRCLE.0, 0x10) ∷ (buffer.VERIFY.0, 0x20) ∷
    (buffer.PRODUCE_UNSAFE_TO_CONCAT.0, 0x40) ∷ (buffer.PRODUCE_SAFE_TO_INSERT_TATWEEL.0, 0x80) ∷
    (buffer.DEFINED.0, 0xFF) ∷ []

-- the sets of `SerializeFlags`, by their bits
abbrev pub serialize_flag_constants : List (ℕ × ℕ)
serialize_flag_constants =
    (serialize.NO_CLUSTERS.0, 1) ∷ (serialize.NO_POSITIONS.0, 2) ∷
    (serialize.NO_GLYPH_NAMES.0, 4) ∷ (serialize.GLYPH_EXTENTS.0, 8) ∷
    (serialize.GLYPH_FLAGS.0, 16) ∷ (serialize.NO_ADVANCES.0, 32) ∷
    (serialize.DEFINED.0, 63) ∷ []

-- the sets of `UnicodeProps`, by their bits
abbrev pub unicode_props_constants : List (ℕ × ℕ)
unicode_props_constants =
    (unicode.GENERAL_CATEGORY.0, 0x1F) ∷ (unicode.IGNORABLE.0, 0x20) ∷
    (unicode.HIDDEN.0, 0x40) ∷ (unicode.CONTINUATION.0, 0x80) ∷
    (unicode.CF_ZWJ.0, 0x100) ∷ (unicode.CF_ZWNJ.0, 0x200) ∷
    (unicode.CF_VS.0, 0x400) ∷ []

-- the sets of `GlyphPropsFlags`, by their bits
abbrev pub glyph_props_constants : List (ℕ × ℕ)
glyph_props_constants =
    (props.BASE_GLYPH.0, 0x02) ∷ (props.LIGATURE.0, 0x04) ∷
    (props.MARK.0, 0x08) ∷ (props.CLASS_MASK.0, 0x0E) ∷
    (props.SUBSTITUTED.0, 0x10) ∷ (props.LIGATED.0, 0x20) ∷
    (props.MULTIPLIED.0, 0x40) ∷ (props.PRESERVE.0, 0x70) ∷ []
