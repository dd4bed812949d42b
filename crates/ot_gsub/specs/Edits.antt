-- What comes of an edit of one glyph, by the calls of the buffer (HarfBuzz, `_set_glyph_class`, `replace_glyph`,
-- `output_glyph_for_component`, and `apply` of the kinds of substitutions).
use Rattle.std.specs.Prelude.{◌≡◌, ℕ, zero, suc, ◌+◌, ◌-◌, ◌*◌, ◌%◌, ◌^◌, ◌==◌, Bool, not, min, nat_le, Some, List, slice_index_or, slice_set, Result, IfOk, if◌then◌else◌}
use Rattle.std.specs.declared.alloc.AllocError.{AllocError}
use Rattle.rb_glyph.specs.Fields.{with_field}
use Rattle.rb_glyph.specs.declared.info.hb_glyph_info_t.{hb_glyph_info_t}
use Rattle.glyph_lists.specs.Clusters.{zero_glyph}
use Rattle.ot_substitution.specs.GlyphTable.{listed, listed_glyph}
use Rattle.ot_layout.specs.LigatureParts.{ligature_id, mark_properties}
use Rattle.ot_lookups.specs.LookupProps.{props, share}
use Rattle.ot_substitution.specs.declared.substitution.Edit.{Edit}
use Rattle.ot_substitution.specs.declared.substitution.Edit.TheVariants.{Replace, Choose, Multiply, Ligate, Apply, ReplaceInPlace}
use Rattle.shaping_buffer.specs.State.{State, len}
use Rattle.shaping_buffer.specs.ClusterStep.{delete_glyph, unsafe_to_break_from_outbuffer}
use Rattle.shaping_buffer.specs.Step.{Outcome, output_glyph, replace_glyph, skip_glyph, unlimited, with_id}
use Rattle.ot_gsub.specs.Properties.{substituted_props}
use Rattle.ot_gsub.specs.Writing.{gives_cluster, glyph_ahead, hand_on, write_properties}
use Rattle.ot_gsub.specs.declared.properties.Way.{Way}
use Rattle.ot_gsub.specs.declared.properties.Way.TheVariants.{Replaced, Multiplied}

-- ---- outcomes

-- the second after the first, unless that was refused
abbrev pub then_do : Outcome → (State → Outcome) → Outcome
then_do first second = if first.done then second first.state else first

-- the answer is that of an outcome, and so is the state, unless memory ran out
pub record Gives (outcome : Outcome) (done : Bool) (new : State) : Type 0 where
  pub answer : done ≡ outcome.done
  pub state : new ≡ outcome.state

abbrev pub GivesOrWants : Outcome → Result Bool AllocError → State → Type 0
GivesOrWants outcome result new = IfOk result (λ done. Gives outcome done new)

-- ---- the properties of a glyph that comes

-- the glyph with other glyph properties, or with another part in a ligature
abbrev pub with_props : ℕ → hb_glyph_info_t → hb_glyph_info_t
with_props n g = record g { var1 = with_field g.var1 0 16 n }

abbrev pub with_lig_props : ℕ → hb_glyph_info_t → hb_glyph_info_t
with_lig_props n g = record g { var1 = with_field g.var1 16 8 n }

-- what becomes of a glyph is said of it, and the class of the glyph that comes into its place
abbrev pub in_class : List ℕ → ℕ → Way → ℕ → hb_glyph_info_t → hb_glyph_info_t
in_class gdef glyph way guess g = with_props (substituted_props gdef (props g) glyph way guess) g

-- the same of the current glyph
abbrev pub set_class : List ℕ → ℕ → Way → ℕ → State → State
set_class gdef glyph way guess s = write_properties 0 (in_class gdef glyph way guess (glyph_ahead 0 s)) s

-- ---- one glyph for one

-- single substitution, and the alternate that a value chooses
abbrev pub replace : List ℕ → ℕ → State → Outcome
replace gdef glyph s = replace_glyph glyph (set_class gdef glyph Replaced 0 s)

-- the next random number of `minstd_rand`, in 32 bits
abbrev pub next_random : ℕ → ℕ
next_random n = n * 48271 % 2 ^ 32 % 2147483647

-- all glyphs of the text are marked as unsafe to break
abbrev pub mark_all : State → State
mark_all s = unsafe_to_break_from_outbuffer (Some 0) (Some (len s)) s

-- the number of the alternate that a random number chooses
abbrev pub chosen : List ℕ → ℕ → ℕ
chosen table random = if listed table == 0 then 0 else random % listed table

-- an alternate by chance: no line may be broken anywhere, as the next choice depends on this one
abbrev pub choose : List ℕ → List ℕ → ℕ → State → Outcome
choose gdef table random s = replace gdef (listed_glyph table (chosen table random)) (mark_all s)

-- ---- several glyphs for one, or none

-- the number of a part of a glyph, counted in 16; a glyph of a ligature keeps its part in that
abbrev pub set_component : Bool → ℕ → State → State
set_component is_part k s =
    if is_part then s else write_properties 0 (with_lig_props (mark_properties 0 (k % 16)) (glyph_ahead 0 s)) s

-- where the font has no classes the parts of a ligature are bases
abbrev pub part_guess : hb_glyph_info_t → ℕ
part_guess whole = if share (props whole) 4 then 2 else 0

-- part k of a glyph is put out under this id
abbrev pub put_part : List ℕ → hb_glyph_info_t → ℕ → ℕ → State → Outcome
put_part gdef whole k glyph s =
    output_glyph glyph
    (set_class gdef glyph Multiplied (part_guess whole) (set_component (not (ligature_id whole == 0)) k s))

-- the first n glyphs of a sequence are put out
unfoldable pub put_parts : List ℕ → hb_glyph_info_t → List ℕ → ℕ → State → Outcome
put_parts gdef whole table zero s = unlimited s
put_parts gdef whole table (suc n) s =
    then_do (put_parts gdef whole table n s) (put_part gdef whole n (listed_glyph table n))

-- where the cluster of the current glyph, which is to go, is given to others, no line may be broken anywhere
abbrev pub mark_given : State → State
mark_given s = if gives_cluster s then mark_all s else s

-- multiple substitution: the parts are put out in the place of the glyph, or where there are none it is deleted, and its glyph
-- flags are handed on
abbrev pub multiply : List ℕ → List ℕ → State → Outcome
multiply gdef table s =
    if listed table == 0 then unlimited (delete_glyph (mark_given (hand_on s)))
    else then_do (put_parts gdef (glyph_ahead 0 s) table (listed table) s) (λ t. unlimited (skip_glyph t))

-- ---- in place

-- the glyph at a place gives way to another one
abbrev pub replace_at : List ℕ → ℕ → ℕ → List hb_glyph_info_t → List hb_glyph_info_t
replace_at gdef place glyph gs =
    slice_set gs place (with_id glyph (in_class gdef glyph Replaced 0 (slice_index_or gs place zero_glyph)))

abbrev pub replace_in_place : List ℕ → ℕ → ℕ → State → State
replace_in_place gdef place glyph s = record s { input = replace_at gdef place glyph s.input }

-- the glyphs of a range are marked as unsafe to break
abbrev pub mark_break : ℕ → ℕ → State → State
mark_break from to s =
    let end = min to (len s) in
    if nat_le from end then unsafe_to_break_from_outbuffer (Some from) (Some end) s else s

-- reverse chaining substitution: what was looked at is marked, and the glyph is replaced in place
abbrev pub made_in_place : List ℕ → ℕ → Edit → State → State
made_in_place gdef place (ReplaceInPlace change) s =
    replace_in_place gdef place change.glyph (mark_break change.from (min (place + change.to) (2 ^ 64 - 1)) s)
made_in_place gdef place (Replace glyph) s = s
made_in_place gdef place (Choose set) s = s
made_in_place gdef place (Multiply sequence) s = s
made_in_place gdef place (Ligate ligation) s = s
made_in_place gdef place (Apply fit) s = s
