-- Both sides of a list that is read and written at a cursor, and what an operation makes of them.
use Rattle.std.specs.Prelude.{◌≡◌, ℕ, ◌+◌, ◌-◌, ◌<◌, ◌≤◌, ◌||◌, ◌⊎◌, Bool, true, false, List, [], ◌++◌, length, take, drop}
use Rattle.std.specs.Prelude.{Result, Ok, Err, nat_lt, slice_index_or, if◌then◌else◌}
use Rattle.std.specs.declared.alloc.AllocError.{AllocError}
use Rattle.glyph_lists.specs.Clusters.{zero_glyph}
use Rattle.glyph_lists.specs.Deletion.{merge_or_mark, deletion}
use Rattle.glyph_lists.specs.Replacement.{copies}
use Rattle.rb_glyph.specs.declared.info.hb_glyph_info_t.{hb_glyph_info_t}

-- While an output is open, `out` is what was put out, and `input` what is left to read.
-- With no output open `out` is empty, and `input` is the whole list, with the cursor in it.
pub record TwoLists : Type 0 where
  pub is_open : Bool
  -- whether what was put out has left the storage of the input
  pub is_separate : Bool
  pub out : List hb_glyph_info_t
  pub input : List hb_glyph_info_t
  -- how many glyphs were read
  pub idx : ℕ
  -- how many glyphs each side may hold without asking for memory
  pub room : ℕ

-- no glyph, and no output open
abbrev pub nothing : ℕ → TwoLists
nothing room = record { is_open = false; is_separate = false; out = []; input = []; idx = 0; room = room }

-- how many glyphs the input has, those before the cursor among them
abbrev pub len : TwoLists → ℕ
len s = if s.is_open then s.idx + length s.input else length s.input

-- how many glyphs there are at the cursor and after it
abbrev pub lookahead_len : TwoLists → ℕ
lookahead_len s = len s - s.idx

-- What is true of all two sides: the cursor is in the input, what stands in the storage of the input has no more glyphs
-- than were read, and with no output open there is no out side.
pub record IsSides (s : TwoLists) : Type 0 where
  pub cursor : s.idx ≤ len s
  pub in_place : s.is_separate ≡ false → length s.out ≤ s.idx
  pub shut : s.is_open ≡ false → (s.is_separate ≡ false) × (s.out ≡ [])

-- ---- the answer of an operation

-- a side becomes longer, and there is no room for it
abbrev pub Outgrows : ℕ → List hb_glyph_info_t → List hb_glyph_info_t → Type 0
Outgrows room before after = (length before < length after) × (room < length after)

-- one side does so
abbrev pub Grows : TwoLists → TwoLists → Type 0
Grows before after = Outgrows before.room before.out after.out ⊎ Outgrows before.room before.input after.input

-- memory may be wanted where the output is separate before or after, and a side becomes longer than there is room for
abbrev pub MayWant : TwoLists → TwoLists → Type 0
MayWant before after = (before.is_separate || after.is_separate ≡ true) × Grows before after

-- it is done; or there was no memory, where some may be wanted, and nothing changed
abbrev pub Makes : {T : Type 0} → TwoLists → TwoLists → Result T AllocError → TwoLists → Type 0
Makes after old (Ok _) new = new ≡ after
Makes after old (Err e) new = MayWant old after × (new ≡ old)

-- ---- the operations

-- what was put out leaves the storage of the input where it has more glyphs than were read, and then stays separate
abbrev pub settled : TwoLists → TwoLists
settled s = record s { is_separate = s.is_separate || nat_lt s.idx (length s.out) }

-- an output is open with nothing in it, and the cursor is at the start
abbrev pub opened : TwoLists → TwoLists
opened s = record s { is_open = true; is_separate = false; out = []; idx = 0 }

-- the list is what was put out, and then what was left to read
abbrev pub closed : TwoLists → TwoLists
closed s = record s { is_open = false; is_separate = false; out = []; input = s.out ++ s.input; idx = 0 }

-- n glyphs at the cursor are dropped; with no output open only the cursor moves
abbrev pub skip : ℕ → TwoLists → TwoLists
skip n s = record s { input = (if s.is_open then drop n s.input else s.input); idx = s.idx + n }

-- these glyphs are put out
abbrev pub put : List hb_glyph_info_t → TwoLists → TwoLists
put xs s = settled (record s { out = s.out ++ xs })

-- n glyphs at the cursor are put out; with no output open only the cursor moves
abbrev pub next : ℕ → TwoLists → TwoLists
next n s = if s.is_open then put (take n s.input) (skip n s) else skip n s

-- all but the first i glyphs that were put out are to be read again
abbrev pub rewind : ℕ → TwoLists → TwoLists
rewind i s =
    record s {
      out = take i s.out;
      input = drop i s.out ++ s.input;
      idx = s.idx - (length s.out - i);
    }

-- ---- both sides as one list

-- what was put out, and then what is left to read; with no output open the whole list
abbrev pub both : TwoLists → List hb_glyph_info_t
both s = s.out ++ s.input

-- where glyph k of the input, counted from its start, stands in what is left to read, and in both sides
abbrev pub input_place : ℕ → TwoLists → ℕ
input_place k s = k - (if s.is_open then s.idx else 0)

abbrev pub place : ℕ → TwoLists → ℕ
place k s = length s.out + input_place k s

-- another list in place of both sides, cut where the out side ends
abbrev pub with_both : List hb_glyph_info_t → TwoLists → TwoLists
with_both l s = record s { out = take (length s.out) l; input = drop (length s.out) l }

-- The glyphs of the input from start to end are merged, or in any order of clusters marked. With no output open the
-- range is not widened past the cursor.
abbrev pub input_merged : Bool → ℕ → ℕ → TwoLists → TwoLists
input_merged any_order start end s =
    with_both (merge_or_mark any_order (both s) (place start s) (place end s) (if s.is_open then 0 else s.idx)) s

-- the first n glyphs of the input are merged, or marked, and copies of the current glyph as it then is
-- put out in place of them
abbrev pub replaced : Bool → ℕ → List ℕ → TwoLists → TwoLists
replaced any_order n ids s =
    let l = merge_or_mark any_order (both s) (length s.out) (length s.out + n) 0 in
    settled (record s {
      out = take (length s.out) l ++ copies (slice_index_or (drop (length s.out) l) 0 zero_glyph) ids;
      input = drop n (drop (length s.out) l);
      idx = s.idx + n;
    })

-- the current glyph goes by the rule of deletion
abbrev pub head_deleted : Bool → TwoLists → TwoLists
head_deleted any_order s =
    let d = deletion any_order s.out (slice_index_or s.input 0 zero_glyph) (drop 1 s.input) in
    record s { out = d.out; input = d.rest; idx = s.idx + 1 }
