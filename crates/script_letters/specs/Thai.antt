-- The vowel AM of Thai and Lao, and the ring that is a part of it (HarfBuzz, `preprocess_text_thai`); marks and consonants of Thai in
-- a font without lookups for it (`do_thai_pua_shaping`).
use Rattle.std.specs.Prelude.{ℕ, Bool, ◌+◌, ◌-◌, ◌==◌, ◌||◌, ◌&&◌, not, nat_le, nat_lt, if◌then◌else◌, Option, Some, None, unwrap_or}
use Rattle.std.specs.Prelude.{List, length, take, slice_index_or, slice_set}
use Rattle.std.specs.List.{suffix_len}
use Rattle.rb_glyph.specs.declared.info.hb_glyph_info_t.{hb_glyph_info_t}
use Rattle.glyph_lists.specs.Clusters.{zero_glyph}
use Rattle.shaping_buffer.specs.State.{State, len}
use Rattle.shaping_buffer.specs.ClusterStep.{merge_out_clusters, unsafe_to_break}
use Rattle.shaping_buffer.specs.Step.{output_glyph}
use Rattle.script_items.specs.Graphemes.{continuing_mark}
use Rattle.script_items.specs.Moves.{moved}
use Rattle.script_letters.specs.declared.thai.private_use.Above.{Above}
use Rattle.script_letters.specs.declared.thai.private_use.Above.TheVariants as aboves
use Rattle.script_letters.specs.declared.thai.private_use.Action.{Action}
use Rattle.script_letters.specs.declared.thai.private_use.Action.TheVariants as actions
use Rattle.script_letters.specs.declared.thai.private_use.Around.{Around}
use Rattle.script_letters.specs.declared.thai.private_use.Below.{Below}
use Rattle.script_letters.specs.declared.thai.private_use.Below.TheVariants as belows
use Rattle.script_letters.specs.declared.thai.private_use.Consonant.{Consonant}
use Rattle.script_letters.specs.declared.thai.private_use.Consonant.TheVariants as consonants
use Rattle.script_letters.specs.declared.thai.private_use.Mark.{Mark}
use Rattle.script_letters.specs.declared.thai.private_use.Mark.TheVariants as marks

-- a number from the first to the last
abbrev pub within : ℕ → ℕ → ℕ → Bool
within first last c = nat_le first c && nat_le c last

-- the vowel AM, of Thai and of Lao
abbrev pub is_sara_am : ℕ → Bool
is_sara_am c = c == 0xE33 || c == 0xEB3

-- the Thai marks above a base
abbrev pub is_thai_above : ℕ → Bool
is_thai_above c = c == 0xE31 || within 0xE34 0xE37 c || c == 0xE3B || within 0xE47 0xE4E c

-- the marks above a base; those of Lao stand at the same places of their block
abbrev pub is_above_base : ℕ → Bool
is_above_base c = is_thai_above c || (c == 0xEB1 || within 0xEB4 0xEB7 c || c == 0xEBB || within 0xEC7 0xECE c)

-- the ring and the rest of a vowel AM
abbrev pub parts_of : ℕ → Option (ℕ × ℕ)
parts_of c =
    if c == 0xE33 then Some (0xE4D, 0xE32) else if c == 0xEB3 then Some (0xECD, 0xEB2) else None

-- where the marks above a base begin that end at a place
abbrev pub above_start : List hb_glyph_info_t → ℕ → ℕ
above_start l end = end - suffix_len (λ g. is_above_base g.glyph_id) (take end l)

-- the last glyph is a mark that goes on with the grapheme before it
abbrev pub last_marked : List hb_glyph_info_t → List hb_glyph_info_t
last_marked l = slice_set l (length l - 1) (continuing_mark (slice_index_or l (length l - 1) zero_glyph))

-- the ring is put out so
abbrev pub ring_put : ℕ → State → State
ring_put ring s = let t = (output_glyph ring s).state in record t { out = last_marked t.out }

-- the ring, which is the last but one of `end` glyphs that were put out, goes before the marks from `start` on
unfoldable pub ring_moved : ℕ → ℕ → State → State
ring_moved start end s =
    let t = merge_out_clusters start end s in
    record t { out = moved start (end - 2) (end - 1) t.out }

-- where there are no such marks, both parts are in one cluster with what stands before them, if graphemes are (level 0)
unfoldable pub ring_merged : ℕ → ℕ → State → State
ring_merged start end s =
    if not (start == 0) && s.cluster_level == 0 then merge_out_clusters (start - 1) end s else s

unfoldable pub ring_placed : ℕ → ℕ → State → State
ring_placed start end s = if nat_lt (start + 2) end then ring_moved start end s else ring_merged start end s

abbrev pub ring_in_place : ℕ → State → State
ring_in_place end s = if nat_lt end 2 then s else ring_placed (above_start s.out (end - 2)) end s

-- ---- fonts without lookups for Thai

-- consonants, by what stands in the way of marks
abbrev pub consonant_of : ℕ → Consonant
consonant_of c =
    if c == 0xE1B || (c == 0xE1D || c == 0xE1F) then consonants.Ascending
    else if c == 0xE0D || c == 0xE10 then consonants.RemovableDescender
    else if c == 0xE0E || c == 0xE0F then consonants.StrictDescender
    else if within 0xE01 0xE2E c then consonants.Plain
    else consonants.Not

-- `thai_above_start_state` and `thai_below_start_state`
abbrev pub above_at_start : Consonant → Above
above_at_start consonants.Plain = aboves.Free
above_at_start consonants.Ascending = aboves.Ascender
above_at_start consonants.RemovableDescender = aboves.Free
above_at_start consonants.StrictDescender = aboves.Free
above_at_start consonants.Not = aboves.Full

abbrev pub below_at_start : Consonant → Below
below_at_start consonants.Plain = belows.Free
below_at_start consonants.Ascending = belows.Free
below_at_start consonants.RemovableDescender = belows.Removable
below_at_start consonants.StrictDescender = belows.Taken
below_at_start consonants.Not = belows.Taken

-- marks, by where they stand
abbrev pub mark_of : ℕ → Option Mark
mark_of c =
    if c == 0xE31 || (within 0xE34 0xE37 c || (c == 0xE47 || within 0xE4D 0xE4E c)) then Some marks.AboveVowel
    else if within 0xE38 0xE3A c then Some marks.BelowVowel
    else if within 0xE48 0xE4C c then Some marks.Tone
    else None

-- `thai_above_state_machine` and `thai_below_state_machine`, by the mark and the state: what is done, and the next state
abbrev pub above_edge : Mark → Above → Action × Above
above_edge marks.BelowVowel state = (actions.Keep, state)
above_edge marks.AboveVowel aboves.Free = (actions.Keep, aboves.Full)
above_edge marks.AboveVowel aboves.Ascender = (actions.Left, aboves.AscenderAndMark)
above_edge marks.AboveVowel aboves.AscenderAndMark = (actions.Keep, aboves.Full)
above_edge marks.AboveVowel aboves.Full = (actions.Keep, aboves.Full)
above_edge marks.Tone aboves.Free = (actions.Down, aboves.Full)
above_edge marks.Tone aboves.Ascender = (actions.DownLeft, aboves.AscenderAndMark)
above_edge marks.Tone aboves.AscenderAndMark = (actions.Left, aboves.Full)
above_edge marks.Tone aboves.Full = (actions.Keep, aboves.Full)

abbrev pub below_edge : Mark → Below → Action × Below
below_edge marks.AboveVowel state = (actions.Keep, state)
below_edge marks.Tone state = (actions.Keep, state)
below_edge marks.BelowVowel belows.Free = (actions.Keep, belows.Taken)
below_edge marks.BelowVowel belows.Removable = (actions.RemoveDescender, belows.Taken)
below_edge marks.BelowVowel belows.Taken = (actions.Down, belows.Taken)

-- what stands around a character that is no mark
abbrev pub around : ℕ → ℕ → Around
around base c =
    record { base = base; above = above_at_start (consonant_of c); below = below_at_start (consonant_of c) }

-- and a mark more
abbrev pub with_mark : Mark → Around → Around
with_mark m a = record a { above = (above_edge m a.above).1; below = (below_edge m a.below).1 }

-- what is done above, or else what is done below
abbrev pub chosen : Action → Action → Action
chosen actions.Keep other = other
chosen actions.Down other = actions.Down
chosen actions.Left other = actions.Left
chosen actions.DownLeft other = actions.DownLeft
chosen actions.RemoveDescender other = actions.RemoveDescender

abbrev pub action_of : Mark → Around → Action
action_of m a = chosen (above_edge m a.above).0 (below_edge m a.below).0

-- `SD_mappings`, `SDL_mappings`, `SL_mappings`, `RD_mappings`: the characters of fonts for Windows and for the Macintosh
abbrev pub moved_down : ℕ → Option (ℕ × ℕ)
moved_down c =
    if c == 0x0E48 then Some (0xF70A, 0xF88B)
    else if c == 0x0E49 then Some (0xF70B, 0xF88E)
    else if c == 0x0E4A then Some (0xF70C, 0xF891)
    else if c == 0x0E4B then Some (0xF70D, 0xF894)
    else if c == 0x0E4C then Some (0xF70E, 0xF897)
    else if c == 0x0E38 then Some (0xF718, 0xF89B)
    else if c == 0x0E39 then Some (0xF719, 0xF89C)
    else if c == 0x0E3A then Some (0xF71A, 0xF89D)
    else None

abbrev pub moved_down_left : ℕ → Option (ℕ × ℕ)
moved_down_left c =
    if c == 0x0E48 then Some (0xF705, 0xF88C)
    else if c == 0x0E49 then Some (0xF706, 0xF88F)
    else if c == 0x0E4A then Some (0xF707, 0xF892)
    else if c == 0x0E4B then Some (0xF708, 0xF895)
    else if c == 0x0E4C then Some (0xF709, 0xF898)
    else None

abbrev pub moved_left : ℕ → Option (ℕ × ℕ)
moved_left c =
    if c == 0x0E48 then Some (0xF713, 0xF88A)
    else if c == 0x0E49 then Some (0xF714, 0xF88D)
    else if c == 0x0E4A then Some (0xF715, 0xF890)
    else if c == 0x0E4B then Some (0xF716, 0xF893)
    else if c == 0x0E4C then Some (0xF717, 0xF896)
    else if c == 0x0E31 then Some (0xF710, 0xF884)
    else if c == 0x0E34 then Some (0xF701, 0xF885)
    else if c == 0x0E35 then Some (0xF702, 0xF886)
    else if c == 0x0E36 then Some (0xF703, 0xF887)
    else if c == 0x0E37 then Some (0xF704, 0xF888)
    else if c == 0x0E47 then Some (0xF712, 0xF889)
    else if c == 0x0E4D then Some (0xF711, 0xF899)
    else None

abbrev pub without_descender : ℕ → Option (ℕ × ℕ)
without_descender c =
    if c == 0x0E0D then Some (0xF70F, 0xF89A)
    else if c == 0x0E10 then Some (0xF700, 0xF89E)
    else None

abbrev pub private_use : Action → ℕ → Option (ℕ × ℕ)
private_use actions.Keep c = None
private_use actions.Down c = moved_down c
private_use actions.DownLeft c = moved_down_left c
private_use actions.Left c = moved_left c
private_use actions.RemoveDescender c = without_descender c

-- the one that the font has
abbrev pub one_of : (ℕ → Bool) → Option (ℕ × ℕ) → Option ℕ
one_of has None = None
one_of has (Some forms) = if has forms.0 then Some forms.0 else if has forms.1 then Some forms.1 else None

-- `thai_pua_shape`
unfoldable pub shaped : (ℕ → Bool) → Action → hb_glyph_info_t → hb_glyph_info_t
shaped has what g = record g { glyph_id = unwrap_or (one_of has (private_use what g.glyph_id)) g.glyph_id }

-- the glyph at a place is shaped so
abbrev pub shaped_at : (ℕ → Bool) → Action → ℕ → List hb_glyph_info_t → List hb_glyph_info_t
shaped_at has what place l = slice_set l place (shaped has what (slice_index_or l place zero_glyph))

-- what loses its descender is the base
abbrev pub place_of : Action → ℕ → ℕ → ℕ
place_of actions.RemoveDescender base place = base
place_of actions.Keep base place = place
place_of actions.Down base place = place
place_of actions.Left base place = place
place_of actions.DownLeft base place = place

-- the base and the marks before the place are unsafe to break
unfoldable pub kept_to_base : ℕ → ℕ → State → State
kept_to_base base place s =
    if nat_le base place && nat_le place (len s) then unsafe_to_break (Some base) (Some place) s else s

-- the mark at a place, and its base, once that is done
abbrev pub mark_shaped : (ℕ → Bool) → Action → ℕ → ℕ → State → State
mark_shaped has what base place s =
    let t = kept_to_base base place s in
    record t { input = shaped_at has what (place_of what base place) t.input }
