-- Ligatures: several glyphs become one, and what was passed over between them stays behind it, with numbers that say to which of its
-- components it belongs (HarfBuzz, `ligate_input`).
use Rattle.std.specs.Prelude.{ℕ, ◌+◌, ◌-◌, ◌%◌, ◌==◌, ◌&&◌, ◌||◌, ◌++◌, Bool, true, false, not, List, [], ◌∷◌, length, map, take, drop, min, suc, bit_and, bit_or, if◌then◌else◌}
use Rattle.std.specs.List.{list_all}
use Rattle.rb_glyph.specs.Fields.{field, with_field}
use Rattle.rb_glyph.specs.declared.info.hb_glyph_info_t.{hb_glyph_info_t}
use Rattle.ot_layout.specs.LigatureParts.{component_count, ligature_component, ligature_id, ligature_properties, mark_properties}
use Rattle.ot_lookups.specs.LookupProps.{glyph_at, props, share}
use Rattle.ot_substitution.specs.declared.substitution.Ligation.{Ligation}
use Rattle.shaping_buffer.specs.State.{State, len}
use Rattle.shaping_buffer.specs.ClusterStep.{merge_clusters}
use Rattle.shaping_buffer.specs.Limits.{allocate_lig_id}
use Rattle.shaping_buffer.specs.Step.{Outcome, next_glyphs, replace_glyph, unlimited}
use Rattle.ot_gsub.specs.Edits.{set_class, then_do, with_lig_props}
use Rattle.ot_gsub.specs.Writing.{drop_behind, glyph_ahead, hand_on, write_properties}
use Rattle.ot_gsub.specs.declared.ligation.Components.{Components}
use Rattle.ot_gsub.specs.declared.ligation.Made.{Made}
use Rattle.ot_gsub.specs.declared.ligation.Made.TheVariants.{Base, Mark, Ligature}
use Rattle.ot_gsub.specs.declared.properties.Way.TheVariants.{Ligated}

-- ---- what glyphs make up

abbrev pub are_marks : List hb_glyph_info_t → Bool
are_marks gs = list_all (λ g. share (props g) 8) gs

-- a base and marks stay a base, and marks alone stay a mark; others make a ligature
abbrev pub made_of : hb_glyph_info_t → List hb_glyph_info_t → Made
made_of first others =
    if not (are_marks others) then Ligature
    else if share (props first) 2 then Base
    else if share (props first) 8 then Mark
    else Ligature

-- of these a ligature has a number of its own
abbrev pub has_number : Made → Bool
has_number Base = false
has_number Mark = false
has_number Ligature = true

abbrev pub are_marks_alone : Made → Bool
are_marks_alone Base = false
are_marks_alone Mark = true
are_marks_alone Ligature = false

-- how many components glyphs have together
abbrev pub count_together : List hb_glyph_info_t → ℕ
count_together [] = 0
count_together (g ∷ gs) = component_count g + count_together gs

-- the glyphs at these places, counted from the cursor
abbrev pub glyphs_at : List ℕ → State → List hb_glyph_info_t
glyphs_at places s = map (glyph_at s.input) places

-- what the current glyph makes up with those at the other places of a match
abbrev pub made_at : List ℕ → State → Made
made_at others s = made_of (glyph_at s.input 0) (glyphs_at others s)

-- ---- the beginning of a ligature

-- the glyphs of a match become one cluster
abbrev pub merged : ℕ → State → State
merged end s = merge_clusters s.idx (min (s.idx + end) (len s)) s

-- the Unicode properties of a ligature: a mark without width (category 12) is a letter (category 7) from now on
abbrev pub as_letter : ℕ → ℕ
as_letter unicode = bit_or (bit_and unicode 224) 7

-- a ligature of this number and of so many components, which are counted in 16
abbrev pub as_ligature : ℕ → ℕ → hb_glyph_info_t → hb_glyph_info_t
as_ligature id count g =
    let unicode = field g.var2 0 16 in
    record (with_lig_props (ligature_properties id (count % 16)) g)
    { var2 = (if bit_and unicode 31 == 12 then with_field g.var2 0 16 (as_letter unicode) else g.var2) }

-- the current glyph is a ligature of the next number
abbrev pub numbered : ℕ → State → State
numbered count s =
    let t = allocate_lig_id s in
    write_properties 0 (as_ligature (t.serial % 8) count (glyph_ahead 0 t)) t

-- the same where it has a number of its own, and that number, or else 0
abbrev pub numbered_if : Made → ℕ → State → State
numbered_if made count s = if has_number made then numbered count s else s

abbrev pub number_of : Made → State → ℕ
number_of made s = if has_number made then (allocate_lig_id s).serial % 8 else 0

-- a ligature is begun at the current glyph, for the other places of its match
abbrev pub begun : ℕ → List ℕ → State → State
begun end others s =
    let t = merged end s in
    numbered_if (made_at others t) (count_together (glyph_at t.input 0 ∷ glyphs_at others t)) t

-- its first component
abbrev pub first_component : ℕ → List ℕ → State → Components
first_component end others s =
    let t = merged end s in
    record {
      made = made_at others t;
      id = number_of (made_at others t) t;
      last = glyph_at t.input 0;
      place = 0;
      before = 0;
    }

-- it is put out in the place of its first component; where the font has no classes it is in that of ligatures, if it has a number
abbrev pub put_ligature : List ℕ → ℕ → Made → State → Outcome
put_ligature gdef glyph made s = replace_glyph glyph (set_class gdef glyph Ligated (if has_number made then 4 else 0) s)

-- ---- the marks of its components

-- The component of the ligature that a mark belongs to, counted in 16. Of the last glyph that was taken in it belonged to a component, or
-- to all of it, which is to its last one.
abbrev pub component_of : Components → hb_glyph_info_t → ℕ
component_of c mark =
    let count = component_count c.last in
    let own = ligature_component mark in
    (c.before + (if own == 0 then count else min own count)) % 16

abbrev pub renumbered : Components → hb_glyph_info_t → hb_glyph_info_t
renumbered c mark = with_lig_props (mark_properties c.id (component_of c mark)) mark

-- the next n glyphs belong to the ligature
abbrev pub renumber : Components → ℕ → State → State
renumber c n s = record s { input = map (renumbered c) (take n s.input) ++ drop n s.input }

-- n glyphs are passed over, or as many as are left: they are put out, and belong to the last component, if the ligature has a number
abbrev pub pass_over : Components → ℕ → State → Outcome
pass_over c n s =
    let count = min n (length s.input) in
    next_glyphs count (if has_number c.made then renumber c count s else s)

-- a mark of the last component
abbrev pub follows : Components → hb_glyph_info_t → Bool
follows c g = (ligature_id g == ligature_id c.last) && not (ligature_component g == 0)

-- how many of them stand at the head of a list
abbrev pub followers : Components → List hb_glyph_info_t → ℕ
followers c [] = 0
followers c (g ∷ gs) = if follows c g then suc (followers c gs) else 0

-- the marks behind the last component follow it into the ligature, where it was one itself; marks alone take none along
abbrev pub marks_follow : Components → Bool
marks_follow c = not (are_marks_alone c.made || (ligature_id c.last == 0))

abbrev pub follow_marks : Components → State → State
follow_marks c s = if marks_follow c then renumber c (followers c s.input) s else s

-- ---- the other components

-- the glyph at a place is the last component
abbrev pub taken : Components → ℕ → hb_glyph_info_t → Components
taken c place g = record c { last = g; place = place; before = (c.before + component_count c.last) % 16 }

-- The components at the other places are taken in: each is dropped, and what stands before it is passed over. Where none is left it
-- ends.
unfoldable pub take_in : Components → List ℕ → State → Outcome
take_in c [] s = unlimited (follow_marks c s)
take_in c (place ∷ places) s =
    then_do (pass_over c (place - c.place - 1) s)
    (λ t. if length t.input == 0 then unlimited t
    else take_in (taken c place (glyph_ahead 0 t)) places (drop_behind (hand_on t)))

-- a ligature in the place of the glyphs of a match, whose places from the cursor on are given
abbrev pub ligate : List ℕ → Ligation → List ℕ → State → Outcome
ligate gdef ligation places s =
    let others = drop 1 places in
    let c = first_component ligation.end others s in
    then_do (put_ligature gdef ligation.ligature c.made (begun ligation.end others s)) (take_in c others)
