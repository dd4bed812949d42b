-- What a character is given before it is shaped: the word of its properties, and what a shaper remembers of it.
use Rattle.std.specs.Prelude.{ℕ, ◌*◌, ◌^◌, ◌==◌, nat_lt, bit_or, if◌then◌else◌, List, [], ◌∷◌}
use Rattle.rb_glyph.specs.Categories.{category_of_char}
use Rattle.rb_glyph.specs.Category.{number_of, is_mark_category}
use Rattle.rb_glyph.specs.Characters.{default_ignorables, modified_combining_class}
use Rattle.rb_glyph.specs.Rows.{holds}
use Rattle.rb_glyph.specs.declared.flag_sets.TheConstants.UnicodeProps.{IGNORABLE, HIDDEN, CONTINUATION, CF_ZWJ}
use Rattle.rb_glyph.specs.declared.flag_sets.TheConstants.UnicodeProps.{CF_ZWNJ}
use Rattle.rb_glyph.specs.declared.scratch.TheConstants.{HB_BUFFER_SCRATCH_FLAG_DEFAULT}
use Rattle.rb_glyph.specs.declared.scratch.TheConstants.{HB_BUFFER_SCRATCH_FLAG_HAS_NON_ASCII}
use Rattle.rb_glyph.specs.declared.scratch.TheConstants.{HB_BUFFER_SCRATCH_FLAG_HAS_DEFAULT_IGNORABLES}
use Rattle.rb_glyph.specs.declared.scratch.TheConstants.{HB_BUFFER_SCRATCH_FLAG_HAS_CGJ}

-- the invisible characters that stay hidden: the grapheme joiner, the Mongolian selectors and the tags
abbrev pub hidden_ignorables : List (ℕ × ℕ)
hidden_ignorables = (0x034F, 0x034F) ∷ (0x180B, 0x180D) ∷ (0x180F, 0x180F) ∷ (0xE0020, 0xE007F) ∷ []

-- what is said of an invisible character beside that it is one
abbrev pub kind_bits : ℕ → ℕ
kind_bits c =
    if c == 0x200C then CF_ZWNJ.0
    else if c == 0x200D then CF_ZWJ.0
    else if holds c hidden_ignorables then HIDDEN.0
    else 0

-- the bits of an invisible character: that it is one, and its kind
abbrev pub ignorable_bits : ℕ → ℕ
ignorable_bits c = if holds c default_ignorables then bit_or IGNORABLE.0 (kind_bits c) else 0

-- the bits of a mark: that it continues a grapheme, and from bit 8 on the class that it is reordered by
abbrev pub mark_bits : ℕ → List (ℕ × ℕ) → ℕ
mark_bits c classes =
    if is_mark_category (category_of_char c) then bit_or CONTINUATION.0 (modified_combining_class c classes * 2 ^ 8)
    else 0

-- the word of a character's properties: the number of its category, and past ASCII the bits above
abbrev pub props_word : ℕ → List (ℕ × ℕ) → ℕ
props_word c classes =
    let category = number_of (category_of_char c) in
    if nat_lt c 0x80 then category else bit_or (bit_or category (ignorable_bits c)) (mark_bits c classes)

-- what is remembered of an invisible character: that there is one, and whether it is the grapheme joiner
abbrev pub ignorable_scratch : ℕ → ℕ
ignorable_scratch c =
    if holds c default_ignorables
    then bit_or HB_BUFFER_SCRATCH_FLAG_HAS_DEFAULT_IGNORABLES
    (if c == 0x034F then HB_BUFFER_SCRATCH_FLAG_HAS_CGJ else HB_BUFFER_SCRATCH_FLAG_DEFAULT)
    else HB_BUFFER_SCRATCH_FLAG_DEFAULT

-- the scratch flags after the character: past ASCII that it is, and what is remembered of an invisible character
abbrev pub props_scratch : ℕ → ℕ → ℕ
props_scratch c scratch =
    if nat_lt c 0x80 then scratch
    else bit_or scratch (bit_or HB_BUFFER_SCRATCH_FLAG_HAS_NON_ASCII (ignorable_scratch c))
