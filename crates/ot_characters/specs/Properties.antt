-- Properties of the characters of a text, and the graphemes that they make (HarfBuzz, `hb_set_unicode_props`; Unicode Standard
-- Annex 29).
use Rattle.std.specs.Prelude.{◌≡◌, ℕ, zero, suc, ◌%◌, ◌==◌, ◌&&◌, ◌||◌, Bool, true, false, not, List, [], ◌∷◌, Option, Some, None}
use Rattle.std.specs.Prelude.{bit_and, bit_or, nat_le, nat_lt, slice_index_or, if◌then◌else◌}
use Rattle.std.specs.List.{fold}
use lib.Utf8.{scalar}
use Rattle.rb_glyph.specs.Characters.{extended_pictographics}
use Rattle.rb_glyph.specs.Fields.{field, with_field}
use Rattle.rb_glyph.specs.Rows.{holds}
use Rattle.rb_glyph.specs.declared.info.hb_glyph_info_t.{hb_glyph_info_t}
use Rattle.rb_glyph.specs.declared.flag_sets.TheConstants.UnicodeProps.{CONTINUATION, CF_ZWJ}
use Rattle.glyph_lists.specs.Clusters.{zero_glyph}
use Rattle.shaping_buffer.specs.State.{State}
use Rattle.script_items.specs.Graphemes.{is_continuation}
use Rattle.script_items.specs.Marks.{category}
use Rattle.script_items.specs.Properties.{properties_of, remembered, with_properties}

-- ---- a character

-- the character goes on with the grapheme before it
abbrev pub continued : hb_glyph_info_t → hb_glyph_info_t
continued g = record g { var2 = with_field g.var2 0 16 (bit_or (field g.var2 0 16) CONTINUATION.0) }

-- the zero width joiner: a format character with a flag of its own
abbrev pub is_zwj : hb_glyph_info_t → Bool
is_zwj g = (category g == 1) && not (bit_and (field g.var2 0 16) CF_ZWJ.0 == 0)

abbrev pub is_within : ℕ → ℕ → hb_glyph_info_t → Bool
is_within first last g = nat_le first g.glyph_id && nat_le g.glyph_id last

-- the first of two regional indicators, which make a flag
abbrev pub begins_flag : hb_glyph_info_t → Bool
begins_flag g = is_within 0x1F1E6 0x1F1FF g && not (is_continuation g)

-- emoji are made from the character
abbrev pub is_pictographic : hb_glyph_info_t → Bool
is_pictographic g = scalar g.glyph_id && holds g.glyph_id extended_pictographics

-- ---- graphemes

-- what stands before a place of a text, which stands behind this
abbrev pub before : Option hb_glyph_info_t → ℕ → List hb_glyph_info_t → Option hb_glyph_info_t
before first zero l = first
before first (suc i) l = Some (slice_index_or l i zero_glyph)

-- there is a character, and it passes a test
abbrev pub is_there : (hb_glyph_info_t → Bool) → Option hb_glyph_info_t → Bool
is_there test None = false
is_there test (Some g) = test g

-- Beside marks these go on with the grapheme before them: a modifier of an emoji, the second of two regional indicators, voiced sound
-- marks of halfwidth Katakana and tags, the zero width joiner, and an emoji behind it.
unfoldable pub goes_on : Option hb_glyph_info_t → hb_glyph_info_t → Bool
goes_on behind g =
    if nat_lt g.glyph_id 0xA9 then false
    else if is_within 0x1F3FB 0x1F3FF g then category g == 24
    else if is_within 0x1F1E6 0x1F1FF g then is_there begins_flag behind
    else if is_within 0xFF9E 0xFF9F g || is_within 0xE0020 0xE007F g then true
    else is_zwj g || (is_there is_zwj behind && is_pictographic g)

-- the character behind another one, which has its properties
abbrev pub in_grapheme : Option hb_glyph_info_t → hb_glyph_info_t → hb_glyph_info_t
in_grapheme behind g = if goes_on behind g then continued g else g

-- ---- the text

-- each character has its properties, and says whether it goes on with the grapheme before it
unfoldable pub characters_behind : Option hb_glyph_info_t → List hb_glyph_info_t → List hb_glyph_info_t
characters_behind behind [] = []
characters_behind behind (g ∷ l) =
    let h = in_grapheme behind (with_properties g) in h ∷ characters_behind (Some h) l

-- the scratch flags once all were read
abbrev pub all_remembered : List hb_glyph_info_t → ℕ → ℕ
all_remembered l flags = fold (λ flags g. remembered g.glyph_id flags) flags l

-- `set_properties`
abbrev pub set_properties : State → State
set_properties s = record s {
  input = characters_behind None s.input;
  scratch_flags = all_remembered s.input s.scratch_flags;
}

-- ---- characters that were met before

-- what is found for a number are its properties, and it was read
abbrev pub IsMet : ℕ → ℕ × ℕ → ℕ → Type 0
IsMet c row flags = row.0 ≡ c → (row.1 ≡ properties_of c) × (remembered c flags ≡ flags)

-- and so for each number, which is looked for by what is left of it when it is divided by 64
abbrev pub AreMet : List (ℕ × ℕ) → ℕ → Type 0
AreMet known flags = (c : ℕ) → IsMet c (slice_index_or known (c % 64) (0, 0)) flags
