-- Hangul syllables and their jamo (the Unicode Standard, sections 3.12 and 18.6), and what is done with them by the glyphs of a font.
use Rattle.std.specs.Prelude.{◌≡◌, ℕ, Bool, ◌==◌, ◌||◌, ◌&&◌, ◌+◌, ◌-◌, ◌*◌, ◌/◌, ◌%◌, nat_le, if◌then◌else◌}
use Rattle.std.specs.Prelude.{Option, Some, None, not, nat_lt, List, [], ◌∷◌, length, slice_index_or, slice_set}
use Rattle.rb_glyph.specs.declared.info.hb_glyph_info_t.{hb_glyph_info_t}
use Rattle.glyph_lists.specs.Clusters.{zero_glyph}
use Rattle.shaping_buffer.specs.State.{State, lookahead_len}
use Rattle.shaping_buffer.specs.ClusterStep.{merge_out_clusters, unsafe_to_break}
use Rattle.script_items.specs.Item.{with_shaper_byte}
use Rattle.script_items.specs.Moves.{moved}
use Rattle.script_letters.specs.declared.hangul.text.Syllable.{Syllable}
use Rattle.script_letters.specs.declared.hangul.syllables.Step.{Step}
use Rattle.script_letters.specs.declared.hangul.syllables.Step.TheVariants.{Compose, Jamo, Decompose, Keep, Pass}

-- a number from the first to the last
abbrev pub within : ℕ → ℕ → ℕ → Bool
within first last c = nat_le first c && nat_le c last

-- leading consonants, vowels, trailing consonants and tone marks
abbrev pub is_leading : ℕ → Bool
is_leading c = within 0x1100 0x115F c || within 0xA960 0xA97C c

abbrev pub is_vowel : ℕ → Bool
is_vowel c = within 0x1160 0x11A7 c || within 0xD7B0 0xD7C6 c

abbrev pub is_trailing : ℕ → Bool
is_trailing c = within 0x11A8 0x11FF c || within 0xD7CB 0xD7FB c

abbrev pub is_tone : ℕ → Bool
is_tone c = within 0x302E 0x302F c

-- the 19 leading consonants, 21 vowels and 27 trailing consonants, or none of these, that make syllables
abbrev pub are_modern : ℕ → ℕ → ℕ → Bool
are_modern l v t = within 0x1100 0x1112 l && within 0x1161 0x1175 v && (t == 0 || within 0x11A8 0x11C2 t)

-- the syllable of modern jamo
abbrev pub syllable_of : ℕ → ℕ → ℕ → ℕ
syllable_of l v t = 0xAC00 + ((l - 0x1100) * 21 + (v - 0x1161)) * 28 + (if t == 0 then 0 else t - 0x11A7)

-- the syllable of these jamo
abbrev pub composed : ℕ → ℕ → ℕ → Option ℕ
composed l v t = if are_modern l v t then Some (syllable_of l v t) else None

-- the jamo of a syllable, and 0 where it has no trailing consonant
abbrev pub jamo_of : ℕ → ℕ × ℕ × ℕ
jamo_of s = (
  0x1100 + (s - 0xAC00) / 588,
  0x1161 + (s - 0xAC00) % 588 / 28,
  if (s - 0xAC00) % 28 == 0 then 0 else 0x11A7 + (s - 0xAC00) % 28,
)

-- whether the character is a syllable of modern jamo
abbrev pub is_syllable : ℕ → Bool
is_syllable c = within 0xAC00 0xD7A3 c

-- the jamo of a character that is a syllable
abbrev pub decomposed : ℕ → Option (ℕ × ℕ × ℕ)
decomposed s = if is_syllable s then Some (jamo_of s) else None

-- ---- what is done, where `has` says which glyphs the font has

-- the jamo of a syllable, of which the last is 0 where it has no trailing consonant
abbrev pub has_jamo : (ℕ → Bool) → ℕ × ℕ × ℕ → Bool
has_jamo has jamo = has jamo.0 && (has jamo.1 && (jamo.2 == 0 || has jamo.2))

-- two jamo, or three with a trailing consonant
abbrev pub count_of : ℕ → ℕ
count_of t = if t == 0 then 2 else 3

-- jamo become a syllable where the font has it, and else stay jamo
abbrev pub step_of_jamo : (ℕ → Bool) → ℕ → ℕ → ℕ → Step
step_of_jamo has l v t =
    if are_modern l v t && has (syllable_of l v t) then Compose (count_of t) (syllable_of l v t) else Jamo (count_of t)

-- A syllable without a trailing consonant is composed with one that follows, where the font has what they make. Where the font does
-- not have the syllable, or such a consonant follows, it becomes jamo, if the font has these. Else it stays.
abbrev pub step_of_syllable : (ℕ → Bool) → ℕ → ℕ × ℕ × ℕ → ℕ → Step
step_of_syllable has s jamo next =
    let followed = jamo.2 == 0 && is_trailing next in
    if followed && (are_modern jamo.0 jamo.1 next && has (syllable_of jamo.0 jamo.1 next)) then
    Compose 2 (syllable_of jamo.0 jamo.1 next)
    else if (not (has s) || followed) && has_jamo has jamo then Decompose jamo (has s && followed)
    else if has s then Keep else Pass

-- what is done with a character and the next two, 0 where there are none
abbrev pub step_of : (ℕ → Bool) → ℕ → ℕ → ℕ → Step
step_of has first second third =
    if is_leading first && is_vowel second then
    step_of_jamo has first second (if is_trailing third then third else 0)
    else if is_syllable first then step_of_syllable has first (jamo_of first) second else Pass

-- ---- the text

-- the character at a place, 0 where there is none
abbrev pub character_at : List hb_glyph_info_t → ℕ → ℕ
character_at l place = if nat_lt place (length l) then (slice_index_or l place zero_glyph).glyph_id else 0

-- what is done with the characters at the cursor
abbrev pub step_at : (ℕ → Bool) → List hb_glyph_info_t → Step
step_at has l = step_of has (character_at l 0) (character_at l 1) (character_at l 2)

-- how many characters from a syllable on may not be broken apart, where a trailing consonant follows one without: both, unless the font
-- has its jamo and the consonant composes with none
abbrev pub unsafe_before_trailing : Step → ℕ × ℕ × ℕ → ℕ → ℕ
unsafe_before_trailing (Decompose parts takes) jamo next = if are_modern jamo.0 jamo.1 next then 2 else 0
unsafe_before_trailing Keep jamo next = 2
unsafe_before_trailing Pass jamo next = 2
unsafe_before_trailing (Compose count syllable) jamo next = 0
unsafe_before_trailing (Jamo count) jamo next = 0

abbrev pub unsafe_syllable : Step → ℕ × ℕ × ℕ → ℕ → ℕ
unsafe_syllable step jamo next = if jamo.2 == 0 && is_trailing next then unsafe_before_trailing step jamo next else 0

-- and from jamo on that make a syllable: all of them
abbrev pub unsafe_length : Step → ℕ → ℕ → ℕ → ℕ
unsafe_length step first second third =
    if is_leading first && is_vowel second then (if is_trailing third then 3 else 2)
    else if is_syllable first then unsafe_syllable step (jamo_of first) second else 0

-- so many characters from the cursor on are unsafe to break
unfoldable pub flagged_unsafe : ℕ → State → State
flagged_unsafe count s =
    if nat_lt 0 count && nat_le count (lookahead_len s) then unsafe_to_break (Some s.idx) (Some (s.idx + count)) s else s

-- the jamo at a place keeps the number of its feature: 1 of `ljmo`, 2 of `vjmo`, 3 of `tjmo`
unfoldable pub numbered_at : ℕ → ℕ → List hb_glyph_info_t → List hb_glyph_info_t
numbered_at place number l = slice_set l place (with_shaper_byte number (slice_index_or l place zero_glyph))

-- those from a place on keep 1, 2 and 3
abbrev pub numbered : ℕ → List hb_glyph_info_t → List hb_glyph_info_t
numbered start l =
    if nat_lt start (length l) then numbered_at (start + 2) 3 (numbered_at (start + 1) 2 (numbered_at start 1 l)) else l

-- they are in one cluster where graphemes are (level 0)
unfoldable pub jamo_merged : ℕ → State → State
jamo_merged start s =
    if s.cluster_level == 0 && nat_le start (length s.out) then merge_out_clusters start (length s.out) s else s

abbrev pub jamo_ended : ℕ → State → State
jamo_ended start s = jamo_merged start (record s { out = numbered start s.out })

-- no glyph was put out that a tone mark belongs to
abbrev pub IsEmpty : Syllable → Type 0
IsEmpty s = s.end ≡ s.start

-- a tone mark without a syllable stands before a dotted circle, or behind it if it has no width
abbrev pub on_circle : ℕ → Bool → List ℕ
on_circle tone has_no_width = if has_no_width then 0x25CC ∷ tone ∷ [] else tone ∷ 0x25CC ∷ []

-- a tone mark, which is the last of `end` glyphs that were put out, goes before its syllable
unfoldable pub tone_moved : ℕ → ℕ → State → State
tone_moved start end s =
    let t = merge_out_clusters start end s in
    record t { out = moved start (end - 1) end t.out }
