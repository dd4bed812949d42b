-- Lookups of single substitutions: what becomes of a glyph hangs on that glyph alone.
use Rattle.std.specs.Prelude.{◌≡◌, ℕ, ◌+◌, ◌==◌, ◌<◌, ◌≤◌, ◌++◌, Bool, true, false, List, [], ◌∷◌, All, length, map, take, drop, min}
use Rattle.std.specs.Prelude.{Option, None, Some, Result, Ok, option_and_then, if◌then◌else◌}
use Rattle.std.specs.Option.{option_or}
use Rattle.std.specs.declared.alloc.AllocError.{AllocError}
use Rattle.rb_glyph.specs.declared.flag_sets.TheConstants.BufferFlags.{PRODUCE_UNSAFE_TO_CONCAT}
use Rattle.rb_glyph.specs.declared.info.hb_glyph_info_t.{hb_glyph_info_t}
use Rattle.ot_lookups.specs.Lookup.{is_for}
use Rattle.ot_lookups.specs.SubtableKinds.{is_single}
use Rattle.ot_lookups.specs.declared.subtable_kind.SubtableKind.{SubtableKind}
use Rattle.ot_lookups.specs.declared.subtable_kind.SubtableKind.TheVariants.{ReverseSubstitution}
use Rattle.ot_substitution.specs.Substitution.{single}
use Rattle.glyph_digests.specs.Covered.{covered_index}
use Rattle.ot_lookups.specs.LookupProps.{glyph_at}
use Rattle.ot_lookups.specs.declared.lookup_list.Lookup.{Lookup}
use Rattle.ot_lookups.specs.declared.subtable.Subtable.{Subtable}
use Rattle.shaping_buffer.specs.State.{State, len}
use Rattle.shaping_buffer.specs.ClusterStep.{asks}
use Rattle.shaping_buffer.specs.Step.{next_glyphs, unlimited, with_id}
use Rattle.ot_gsub.specs.Edits.{Gives, in_class}
use Rattle.ot_gsub.specs.Turn.{subtables}
use Rattle.ot_gsub.specs.declared.properties.Way.TheVariants.{Replaced}
use Rattle.ot_gsub.specs.declared.substitution.Substitutions.{Substitutions}

-- ---- one glyph

-- the glyph that a subtable puts in the place of this one
abbrev pub single_of : Subtable → ℕ → Option ℕ
single_of subtable glyph =
    option_and_then (single subtable.kind subtable.table.now glyph) (covered_index subtable.coverage.table.now glyph)

-- that of the first subtable that has one
abbrev pub first_single : List Subtable → ℕ → Option ℕ
first_single [] glyph = None
first_single (subtable ∷ rest) glyph = option_or (single_of subtable glyph) (first_single rest glyph)

-- a glyph gives way to another one, if there is one
abbrev pub give_way : List ℕ → hb_glyph_info_t → Option ℕ → hb_glyph_info_t
give_way gdef g None = g
give_way gdef g (Some glyph) = with_id glyph (in_class gdef glyph Replaced 0 g)

-- what becomes of a glyph: the lookup is for one that has a bit of the feature, and that it does not pass over
unfoldable pub substituted : Substitutions → Lookup → hb_glyph_info_t → hb_glyph_info_t
substituted substitutions lookup g =
    if is_for lookup substitutions.options.mask g
    then give_way substitutions.gdef.now.table.now g (first_single (subtables substitutions lookup) g.glyph_id) else g

-- ---- a text

-- the lookup has single substitutions alone, and nothing is marked: what was looked at is no more than the glyph
pub record IsSingle (substitutions : Substitutions) (lookup : Lookup) (s : State) : Type 0 where
  pub kinds : All (λ (subtable : Subtable). is_single subtable.kind ≡ true) (subtables substitutions lookup)
  pub unmarked : asks PRODUCE_UNSAFE_TO_CONCAT s ≡ false

-- the same of a lookup that may be none
abbrev pub IsSingleIf : Substitutions → Option Lookup → State → Type 0
IsSingleIf substitutions None s = Unit {0}
IsSingleIf substitutions (Some lookup) s = IsSingle substitutions lookup s

-- each glyph of a text has become what the lookup makes of it
abbrev pub substitute_all : Substitutions → Option Lookup → List hb_glyph_info_t → List hb_glyph_info_t
substitute_all substitutions None gs = gs
substitute_all substitutions (Some lookup) gs = map (substituted substitutions lookup) gs

-- The lookup was applied to the text of a buffer: all else is as before, but for the cursor and the positions.
pub record IsSubstituted (substitutions : Substitutions) (lookup : Option Lookup) (old : State) (result : Result Bool AllocError) (new : State) : Type 0 where
  pub answer : result ≡ Ok true
  pub input : new.input ≡ substitute_all substitutions lookup old.input
  pub others : new ≡ record old { input = new.input; idx = new.idx; positions = new.positions }

-- ---- on the way

-- the next n glyphs have become what f makes of them
abbrev pub moved : (hb_glyph_info_t → hb_glyph_info_t) → ℕ → State → State
moved f n s = record s { out = s.out ++ map f (take n s.input); input = drop n s.input; idx = s.idx + n }

-- an output was opened, and the first n glyphs were put out
abbrev pub opened_at : ℕ → State → State
opened_at n s =
    record s {
      have_output = true;
      have_separate_output = false;
      out = take n s.input;
      input = drop n s.input;
      idx = n;
      positions = None;
    }

-- an output is open in the storage of the input, and as many glyphs were put out as were read
pub record IsLevel (s : State) : Type 0 where
  pub opened : s.have_output ≡ true
  pub stored : s.have_separate_output ≡ false
  pub level : length s.out ≡ s.idx
  pub within : len s ≤ s.max_len

-- the lookup is for the current glyph, if there is one
abbrev pub IsForNext : Substitutions → Lookup → State → Type 0
IsForNext substitutions lookup s =
    0 < length s.input → is_for lookup substitutions.options.mask (glyph_at s.input 0) ≡ true

abbrev pub is_reverse : SubtableKind → Bool
is_reverse ReverseSubstitution = true
is_reverse _ = false

-- the first of the subtables of a lookup that is applied from the end has reverse substitutions
abbrev pub starts_reverse : List Subtable → Bool
starts_reverse [] = false
starts_reverse (subtable ∷ rest) = is_reverse subtable.kind

-- so many glyphs were passed over that a lookup is not for, and it is for the one after them
pub record GoesOn (lookup : Lookup) (mask start : ℕ) (old : State) (done : Bool) (new : State) : Type 0 where
  pub count : ℕ
  pub from : min start (length old.input) ≤ count
  pub within : count ≤ length old.input
  pub passed : (place : ℕ) → min start (length old.input) ≤ place → place < count → is_for lookup mask (glyph_at old.input place) ≡ false
  pub at : count < length old.input → is_for lookup mask (glyph_at old.input count) ≡ true
  pub gives : Gives (if count == 0 then unlimited old else next_glyphs count old) done new

-- at least so many glyphs have become what the lookup makes of them, and it is for the one after them
pub record HasMoved (substitutions : Substitutions) (lookup : Lookup) (least : ℕ) (old new : State) : Type 0 where
  pub count : ℕ
  pub from : least ≤ count
  pub within : count ≤ length old.input
  pub state : new ≡ moved (substituted substitutions lookup) count old
  pub at : count < length old.input → is_for lookup substitutions.options.mask (glyph_at old.input count) ≡ true
