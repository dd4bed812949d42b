-- What a command makes of a session.
use Rattle.std.specs.Prelude.{⊤, ℕ, ◌≡◌, ◌&&◌, ◌||◌, not, List, length, Bool, codes, nat_le, if◌then◌else◌}
use Rattle.std.specs.List.{list_all}
use Rattle.rb_glyph.specs.declared.info.hb_glyph_info_t.{hb_glyph_info_t}
use Rattle.rb_glyph.specs.declared.flag_sets.SerializeFlags.{SerializeFlags}
use Rattle.shaping_buffer.specs.Limits.{set_max_len}
use Rattle.shaping_buffer.specs.Positions.{with_zero_positions}
use Rattle.shaping_buffer.specs.Pushed.{pushed, added}
use Rattle.shaping_buffer.specs.State.{State, len, lookahead_len, empty_state, cleared}
use Rattle.shaping_buffer.specs.Step as step
use Rattle.shaping_buffer.specs.Step.{Outcome}
use Rattle.glyph_text.specs.Text.{asks_font, nothing_known}
use Rattle.shaping_buffer.specs.Text.{text_of}
use Rattle.shaping_buffer.specs.declared.buffer.TheConstants.hb_buffer_t.{MAX_LEN_DEFAULT, MAX_OPS_DEFAULT}
use Rattle.shaping_runs.specs.Replay.{Turn, turn, has_glyph, answer_of}
use Rattle.shaping_runs.specs.declared.call.Answer.TheVariants.{Outside}
use Rattle.shaping_session.specs.Queries.{AnswersFeature, AnswersCompose, AnswersDecompose, tags_text}
use Rattle.shaping_session.specs.Replies.{answer_text, truth_text}
use Rattle.shaping_session.specs.StateText.{state_text}
use Rattle.shaping_session.specs.Commands.{Request, push, add, level, flags, limit, call, replace_glyphs, state}
use Rattle.shaping_session.specs.Commands.{serialize, new, feature, tags, compose, decompose}
use Rattle.shaping_session.specs.declared.session.Session.{Session}
use Rattle.shaping_session.specs.declared.session.Session.TheVariants.{Text, Turned}

-- what is held: the text, or the buffer that it was turned into
abbrev pub held_by : Session → State
held_by (Text text) = text
held_by (Turned buffer) = buffer

-- it is still a text
abbrev pub IsText : Session → Type 0
IsText (Text text) = ⊤
IsText (Turned buffer) = ⊥

-- what a session begins with: an empty text
abbrev pub fresh : Session
fresh = Text (empty_state MAX_LEN_DEFAULT MAX_OPS_DEFAULT)

-- the same with another cluster level
abbrev pub with_level : ℕ → Session → Session
with_level n (Text text) = Text (record text { cluster_level = n })
with_level n (Turned buffer) = Turned (record buffer { cluster_level = n })

-- the same with other flags
abbrev pub with_flags : ℕ → Session → Session
with_flags n (Text text) = Text (record text { flags = record { 0 = n } })
with_flags n (Turned buffer) = Turned (record buffer { flags = record { 0 = n } })

-- the session before a command and after it, and how the answer reads.
-- Only a text grows
abbrev pub Grows : (State → Outcome) → Session → Session → List ℕ → Type 0
Grows step (Text text) after answer = (after ≡ Text (step text).state) × (answer ≡ truth_text (step text).done)
Grows step (Turned buffer) after answer = (after ≡ Turned buffer) × (answer ≡ codes "outside")

-- whether no side holds more glyphs than so many
abbrev pub is_within : ℕ → State → Bool
is_within number s = nat_le (len s) number && nat_le (length s.out) number

-- a limit is one of a buffer of which no side holds more
abbrev pub FollowsLimit : ℕ → Session → Session → List ℕ → Type 0
FollowsLimit number before after answer =
    let held = held_by before in
    (after ≡ Turned (if is_within number held then set_max_len number held else held))
    × (answer ≡ (if is_within number held then codes "ok" else codes "outside"))

-- a turn is one of a buffer
abbrev pub FollowsTurn : (State → Turn) → Session → Session → List ℕ → Type 0
FollowsTurn turn_of before after answer =
    (after ≡ Turned (turn_of (held_by before)).state) × (answer ≡ answer_text (turn_of (held_by before)).answer)

-- whether so many glyphs at the cursor may be replaced
abbrev pub may_be_replaced : ℕ → State → Bool
may_be_replaced num_in s = s.have_output && (has_glyph s && nat_le num_in (lookahead_len s))

-- a replacement by glyphs of these ids, in or outside its condition
abbrev pub replacement_turn : ℕ → List ℕ → State → Turn
replacement_turn num_in ids s =
    let outcome = step.replace_glyphs num_in ids s in
    if may_be_replaced num_in s then record { answer = answer_of outcome.done; state = outcome.state }
    else record { answer = Outside; state = s }

-- the two lists of a buffer are printed
abbrev pub FollowsState : Session → Session → List ℕ → Type 0
FollowsState before after answer = (after ≡ Turned (held_by before)) × (answer ≡ state_text (held_by before))

-- the number of a glyph has 16 bits
abbrev pub is_glyph : hb_glyph_info_t → Bool
is_glyph g = nat_le g.glyph_id 65535

-- whether glyphs may be printed under these flags: no output is open, and where the font is asked each id is a glyph's
unfoldable pub may_be_printed : SerializeFlags → State → Bool
may_be_printed set s = not s.have_output && (not (asks_font set) || list_all is_glyph s.input)

-- glyphs that may be printed are, with positions that are all 0, and a new text begins
abbrev pub FollowsSerialize : SerializeFlags → Session → Session → List ℕ → Type 0
FollowsSerialize set before after answer =
    let held = held_by before in
    let printed = text_of nothing_known set (with_zero_positions held) in
    (after ≡ (if may_be_printed set held then Text (cleared held) else Turned held))
    × (answer ≡ (if may_be_printed set held then printed else codes "outside"))

-- what a request makes of a session, and how it is answered
abbrev pub Follows : Request → Session → Session → List ℕ → Type 0
Follows (push text) before after answer = Grows (pushed text) before after answer
Follows (add character cluster) before after answer = Grows (added character cluster) before after answer
Follows (level number) before after answer = (after ≡ with_level number before) × (answer ≡ codes "ok")
Follows (flags number) before after answer = (after ≡ with_flags number before) × (answer ≡ codes "ok")
Follows (limit number) before after answer = FollowsLimit number before after answer
Follows (call c) before after answer = FollowsTurn (turn c) before after answer
Follows (replace_glyphs num_in ids) before after answer = FollowsTurn (replacement_turn num_in ids) before after answer
Follows state before after answer = FollowsState before after answer
Follows (serialize number) before after answer = FollowsSerialize (record { 0 = number }) before after answer
Follows new before after answer = (after ≡ fresh) × (answer ≡ codes "ok")
Follows (feature text) before after answer = (after ≡ before) × AnswersFeature text answer
Follows (tags script language) before after answer = (after ≡ before) × (answer ≡ tags_text script language)
Follows (compose a b) before after answer = (after ≡ before) × AnswersCompose a b answer
Follows (decompose c) before after answer = (after ≡ before) × AnswersDecompose c answer
