-- Worked examples of a buffer: its text, and what flag calls make of it, the scratch flags among it.
use Rattle.std.proofs.Common.{◌≡◌, ℕ, [], ◌∷◌, refl, pos}
use Rattle.std.specs.Prelude.{Some, None, false, codes, encode_utf8_all, List}
use Rattle.std.specs.Char.{encode_utf8}
use Rattle.std.specs.Str.{chars}
use Rattle.std.specs.Fmt.{digits}
use Rattle.std.specs.List.{sum}
use Rattle.rb_glyph.specs.declared.flag_sets.SerializeFlags.{SerializeFlags}
use Rattle.rb_glyph.specs.declared.flag_sets.TheConstants.SerializeFlags.{NO_GLYPH_NAMES, NO_POSITIONS, NO_ADVANCES}
use Rattle.rb_glyph.specs.declared.flag_sets.TheConstants.SerializeFlags.{GLYPH_EXTENTS, DEFINED}
use Rattle.rb_glyph.specs.declared.info.hb_glyph_info_t.{hb_glyph_info_t}
use Rattle.glyph_lists.specs.Clusters.{zero_glyph, least}
use Rattle.glyph_lists.specs.Marks.{with_glyph_flags, mark_part, end_mark, ends}
use Rattle.glyph_lists.specs.Scans.{scan_of}
use Rattle.shaping_buffer.specs.State.{State, empty_state}
use Rattle.shaping_buffer.specs.Pushed.{pushed}
use Rattle.shaping_buffer.specs.Positions.{with_zero_positions}
use Rattle.glyph_text.specs.Text.{nothing_known}
use Rattle.shaping_buffer.specs.Text.{text_of}
use Rattle.shaping_buffer.specs.ClusterStep.{unsafe_to_concat, unsafe_to_break}

-- a glyph of this cluster with this mask
abbrev glyph : ℕ → ℕ → hb_glyph_info_t
glyph c m = record zero_glyph { cluster = c; mask = m }

-- three glyphs in clusters of their own
abbrev three : State
three = record (empty_state 9 (pos 0)) { input = glyph 0 0 ∷ glyph 1 0 ∷ glyph 2 0 ∷ [] }

-- ---- texts

-- these flags together
abbrev flags_of : List ℕ → SerializeFlags
flags_of bits = record { 0 = sum bits }

-- the text of a character pushed into a new buffer
abbrev text_of_a : List ℕ → List ℕ
text_of_a bits =
    text_of nothing_known (flags_of bits) (with_zero_positions (pushed (codes "a") (empty_state 9 (pos 0))).state)

nothing_reads_as_nothing : text_of nothing_known NO_GLYPH_NAMES (with_zero_positions (empty_state 9 (pos 0))) ≡ []
nothing_reads_as_nothing = refl

each_text_is_numbered_from_its_first_byte :
    text_of nothing_known (flags_of (NO_GLYPH_NAMES.0 ∷ NO_POSITIONS.0 ∷ []))
    (with_zero_positions
    (pushed (codes "a") (pushed (encode_utf8_all (233 ∷ 122 ∷ [])) (empty_state 9 (pos 0))).state).state)
    ≡ codes "233=0|122=2|97=0"
unfolding chars encode_utf8 digits
each_text_is_numbered_from_its_first_byte = refl

no_flags_at_all : text_of_a [] ≡ codes "gid97=0+0"
unfolding chars encode_utf8 digits
no_flags_at_all = refl

extents_alone : text_of_a (GLYPH_EXTENTS.0 ∷ []) ≡ codes "gid97=0+0<0,0,0,0>"
unfolding chars encode_utf8 digits
extents_alone = refl

no_advances_alone : text_of_a (NO_ADVANCES.0 ∷ []) ≡ codes "gid97=0"
unfolding chars encode_utf8 digits
no_advances_alone = refl

all_flags : text_of_a (DEFINED.0 ∷ []) ≡ codes "97<0,0,0,0>"
unfolding chars encode_utf8 digits
all_flags = refl

text_is_too_long : pushed (codes "ab") (empty_state 1 (pos 0))
    ≡ record { done = false; state = record (empty_state 1 (pos 0)) { successful = false } }
unfolding chars encode_utf8
text_is_too_long = refl

-- ---- flags

-- unless the flag asks for it, `unsafe_to_concat` changes nothing
concat_is_not_asked_for : unsafe_to_concat (Some 0) (Some 3) three ≡ three
concat_is_not_asked_for = refl

concat_is_asked_for : unsafe_to_concat (Some 1) None (record three { flags = record { 0 = 64 } })
    ≡ record three { flags = record { 0 = 64 }; input = glyph 0 0 ∷ glyph 1 2 ∷ glyph 2 2 ∷ []; scratch_flags = 32 }
unfolding with_glyph_flags
concat_is_asked_for = refl

break_tells_that_there_are_flags : unsafe_to_break None (Some 7) three
    ≡ record three { input = glyph 0 0 ∷ glyph 1 3 ∷ glyph 2 3 ∷ []; scratch_flags = 32 }
unfolding scan_of end_mark mark_part least ends with_glyph_flags
break_tells_that_there_are_flags = refl

break_of_one_glyph_changes_nothing : unsafe_to_break (Some 1) (Some 2) three ≡ three
break_of_one_glyph_changes_nothing = refl
