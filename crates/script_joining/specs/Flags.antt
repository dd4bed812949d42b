-- What is known of the place between two letters.
use Rattle.std.specs.Prelude.{ℕ, Bool, true, false, ◌+◌, ◌&&◌, ◌||◌, not, List, length, Option, Some, None, unwrap_or, nat_le, nat_lt}
use Rattle.std.specs.Prelude.{slice_index_or, if◌then◌else◌}
use Rattle.rb_glyph.specs.declared.info.hb_glyph_info_t.{hb_glyph_info_t}
use Rattle.glyph_lists.specs.Clusters.{zero_glyph}
use Rattle.shaping_buffer.specs.State.{State, len}
use Rattle.shaping_buffer.specs.ClusterStep.{safe_to_insert_tatweel, unsafe_to_break, unsafe_to_concat, unsafe_to_concat_from_outbuffer}
use Rattle.script_joining.specs.declared.joining.kind.JoiningType.{JoiningType}
use Rattle.script_joining.specs.declared.joining.kind.JoiningType.TheVariants.{Left, Dual}
use Rattle.script_joining.specs.declared.joining.kind.JoiningType.TheVariants.{Alaph}
use Rattle.script_joining.specs.declared.joining.flags.Tie.{Tie}
use Rattle.script_joining.specs.declared.joining.flags.Tie.TheVariants.{Loose, UnsafeToConcat, SafeToInsertTatweel}
use Rattle.script_joining.specs.declared.joining.flags.LastLetter.{LastLetter}
use Rattle.script_joining.specs.declared.joining.kind.JoiningType.TheVariants.{NonJoining}
use Rattle.script_joining.specs.Joining as joining
use Rattle.script_joining.specs.Joining.{joins_next, joins_previous}

-- whether the form of a letter depends on the next one: for an alaph it does unless its word begins with it
abbrev pub heeds_next : JoiningType → JoiningType → Bool
heeds_next before Left = true
heeds_next before Dual = true
heeds_next before Alaph = joins_next before || joins_previous before
heeds_next before _ = false

-- whether the form of a letter depends on the one before even where these are not joined, as that of an alaph within a word does
abbrev pub heeds_previous : JoiningType → JoiningType → Bool
heeds_previous before Alaph = joins_previous before
heeds_previous before _ = false

-- the letter before changes its form by this one: a tatweel may stand between; one of both might be joined: it is unsafe to put texts
-- together there
abbrev pub tie_of : Bool → JoiningType → Tie
tie_of is_heeded own =
    if joins_previous own then (if is_heeded then SafeToInsertTatweel else UnsafeToConcat)
    else if is_heeded then UnsafeToConcat else Loose

-- the type of the item at a place; no letter stands beyond the text
abbrev pub kind_at : List hb_glyph_info_t → ℕ → JoiningType
kind_at l place = if nat_lt place (length l) then joining.kind (slice_index_or l place zero_glyph) else NonJoining

-- a letter of a type at a place: it has its form by the last one, if they are not joined and that does not heed it
abbrev pub letter_behind : LastLetter → JoiningType → ℕ → LastLetter
letter_behind last own place = record {
  place = Some place;
  kind = own;
  heeds_next = heeds_next last.kind own;
  formed_by = if last.heeds_next || not (heeds_previous last.kind own) then None else last.place;
}

-- ---- the flags of a text

-- what stands from one place up to another, flagged so
abbrev pub flagged_by : Tie → ℕ → ℕ → State → State
flagged_by Loose start end s = s
flagged_by UnsafeToConcat start end s = unsafe_to_concat (Some start) (Some end) s
flagged_by SafeToInsertTatweel start end s = safe_to_insert_tatweel (Some start) (Some end) s

unfoldable pub flagged_between : Tie → ℕ → ℕ → State → State
flagged_between tie start end s = if nat_lt end start || nat_lt (len s) end then s else flagged_by tie start end s

-- a letter has its form by the one at the first place, unless the next one joins to it
unfoldable pub kept_formed : ℕ → ℕ → JoiningType → State → State
kept_formed from place next s =
    if nat_le from place && (nat_lt place (len s) && not (joins_previous next))
    then unsafe_to_break (Some from) (Some (place + 1)) s else s

abbrev pub flagged_formed : Option ℕ → Option ℕ → JoiningType → State → State
flagged_formed None place next s = s
flagged_formed (Some from) None next s = s
flagged_formed (Some from) (Some place) next s = kept_formed from place next s

-- the beginning of the text, up to a letter that ends at a place: it might join one before the text
unfoldable pub flagged_first : JoiningType → ℕ → State → State
flagged_first own end s = if joins_previous own then unsafe_to_concat_from_outbuffer (Some 0) (Some end) s else s

-- the place between the last letter and such a one
abbrev pub flagged_behind : Option ℕ → Bool → JoiningType → ℕ → State → State
flagged_behind None is_heeded own end s = flagged_first own end s
flagged_behind (Some start) is_heeded own end s = flagged_between (tie_of is_heeded own) start end s

abbrev pub flagged_join : LastLetter → JoiningType → ℕ → State → State
flagged_join last own end s =
    flagged_behind last.place last.heeds_next own end (flagged_formed last.formed_by last.place own s)

-- the end of the text, where its last letter heeds the one behind it, if that is known
abbrev pub flagged_before : Option ℕ → Bool → Option JoiningType → State → State
flagged_before None is_heeded behind s = s
flagged_before (Some start) is_heeded None s = s
flagged_before (Some start) is_heeded (Some own) s =
    if is_heeded then flagged_between (tie_of true own) start (len s) s else s

abbrev pub flagged_end : LastLetter → Option JoiningType → State → State
flagged_end last behind s =
    flagged_before last.place last.heeds_next behind (flagged_formed last.formed_by last.place (unwrap_or behind NonJoining) s)
