-- The two lists: what a buffer holds, as its callers see it.
use Rattle.std.specs.Prelude.{◌≡◌, ℕ, ◌+◌, ◌-◌, Bool, true, false, List, [], length, Option, None, IsSome}
use Rattle.std.specs.Prelude.{if◌then◌else◌, ℤ}
use Rattle.rb_common.specs.declared.glyph_id.GlyphId.{GlyphId}
use Rattle.rb_common.specs.declared.direction.Direction.{Direction}
use Rattle.rb_common.specs.declared.direction.Direction.TheVariants.{Invalid}
use Rattle.rb_glyph.specs.declared.flag_sets.BufferFlags.{BufferFlags}
use Rattle.rb_glyph.specs.declared.info.hb_glyph_info_t.{hb_glyph_info_t}
use Rattle.rb_glyph.specs.declared.position.GlyphPosition.{GlyphPosition}
use Rattle.glyph_lists.specs.Guess.{AreCharacters}

-- While an output is open, `out` is what was put out, and `input` what is left to read.
-- With no output open `out` is empty, and `input` is the whole list, with the cursor in it.
pub record State : Type 0 where
  pub have_output : Bool
  -- whether what was put out has left the storage of the input
  pub have_separate_output : Bool
  pub out : List hb_glyph_info_t
  pub input : List hb_glyph_info_t
  pub idx : ℕ
  -- whether no call was refused for length
  pub successful : Bool
  -- how many glyphs a side may hold
  pub max_len : ℕ
  -- how many glyphs a side may hold without asking for memory
  pub room : ℕ
  -- the positions, while they are on
  pub positions : Option (List GlyphPosition)
  -- the characters next to the text, before it and after it, nearest first
  pub pre_context : List ℕ
  pub post_context : List ℕ
  -- the public fields of the buffer, by their names
  pub flags : BufferFlags
  pub cluster_level : ℕ
  pub invisible : Option GlyphId
  pub not_found_variation_selector : Option ℕ
  pub direction : Direction
  pub script : Option ℕ
  pub language : Option (List ℕ)
  pub shaping_failed : Bool
  pub serial : ℕ
  pub scratch_flags : ℕ
  pub max_ops : ℤ

-- how many glyphs the input has, those before the cursor among them
abbrev pub len : State → ℕ
len s = if s.have_output then s.idx + length s.input else length s.input

-- how many glyphs there are at the cursor and after it
abbrev pub lookahead_len : State → ℕ
lookahead_len s = len s - s.idx

-- where the glyph k places after the cursor lies in the input
abbrev pub place_of : State → ℕ → ℕ
place_of s k = if s.have_output then k else s.idx + k

-- no flags
abbrev pub no_flags : BufferFlags
no_flags = record { 0 = 0 }

-- nothing is held, and there is no room
abbrev pub empty_state : ℕ → ℤ → State
empty_state max_len max_ops = record {
  have_output = false;
  have_separate_output = false;
  out = [];
  input = [];
  idx = 0;
  successful = true;
  max_len = max_len;
  room = 0;
  positions = None;
  pre_context = [];
  post_context = [];
  flags = no_flags;
  cluster_level = 0;
  invisible = None;
  not_found_variation_selector = None;
  direction = Invalid;
  script = None;
  language = None;
  shaping_failed = false;
  serial = 0;
  scratch_flags = 0;
  max_ops = max_ops;
}

-- emptied for the next text: the limits, the room, the flags, the invisible glyph and whether shaping failed stay
abbrev pub cleared : State → State
cleared s = record (empty_state s.max_len s.max_ops) {
  room = s.room;
  flags = s.flags;
  invisible = s.invisible;
  shaping_failed = s.shaping_failed;
}

-- a text that is not yet shaped: no output is open, the cursor is at the start, there are no positions, and the ids are
-- characters
pub record IsText (s : State) : Type 0 where
  pub closed : s.have_output ≡ false
  pub at_start : s.idx ≡ 0
  pub plain : s.positions ≡ None
  pub characters : AreCharacters s.input

-- shaped glyphs: no output is open, and positions are on
pub record HasPositions (s : State) : Type 0 where
  pub closed : s.have_output ≡ false
  pub placed : IsSome s.positions
