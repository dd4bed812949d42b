-- Marks that are attached to a base, to a component of a ligature or to another mark (OpenType, "Mark-to-base attachment" and those
-- behind it). Anchors stand at their coordinates: where glyphs are drawn in pixels, one may stand at a point of an outline instead.
use Rattle.std.specs.Prelude.{◌≡◌, ℕ, ◌+◌, ◌-◌, ◌==◌, ◌&&◌, ◌||◌, Bool, true, not, List, [], Option, None, Some, zero, suc, length, min}
use Rattle.std.specs.Prelude.{if◌then◌else◌, nat_le, nat_lt, bit_and, unwrap_or, option_and_then, is_some, Result, Ok, Err}
use Rattle.std.specs.Option.{option_map_or, option_or}
use Rattle.font_tables.specs.Bytes.{number_16, table_at_16}
use Rattle.font_tables.specs.declared.scale.Scale.{Scale}
use Rattle.rb_glyph.specs.declared.info.hb_glyph_info_t.{hb_glyph_info_t}
use Rattle.shaping_buffer.specs.State.{State}
use Rattle.ot_layout.specs.LigatureParts.{ligature_component, ligature_id}
use Rattle.glyph_digests.specs.Covered.{covered_index}
use Rattle.ot_lookups.specs.LookupProps.{glyph_at, props, share}
use Rattle.ot_layout.specs.SkippingIterator.{previous_found}
use Rattle.ot_layout.specs.declared.matcher.Matcher.TheVariants.{Shown}
use Rattle.ot_layout.specs.declared.skipping_iterator.Found.{Found}
use Rattle.ot_layout.specs.declared.skipping_iterator.Found.TheVariants.{At, Other, End}
use Rattle.ot_layout.specs.declared.skipping_iterator.SkippingIterator.{SkippingIterator}
use Rattle.ot_gpos_tables.specs.Anchors.{anchor, anchor_in, between, ligature_matrix, mark_anchor, mark_class, placed}
use Rattle.ot_gpos_tables.specs.declared.anchors.Anchor.{Anchor}
use Rattle.ot_gpos_tables.specs.declared.instance.Instance.{Instance}
use Rattle.ot_gpos.specs.Bases.{counts_at}
use Rattle.ot_attachments.specs.Flags.{attachments_marked, break_marked, concat_marked}
use Rattle.ot_attachments.specs.Places.{behind}
use Rattle.ot_attachments.specs.Placing.{changed_at, mark_put, on_positions}
use Rattle.ot_gpos.specs.declared.attachment.Attachment.{Attachment}
use Rattle.ot_gpos.specs.declared.attachment.AttachmentFound.{AttachmentFound}
use Rattle.ot_gpos.specs.declared.attachment.AttachmentFound.TheVariants.{Nothing, NoBase, Attached}
use Rattle.ot_gpos.specs.declared.marks.LastBase.{LastBase}
use Rattle.ot_gpos.specs.Visit.{Visit}

-- the bytes of the subtable, its array of marks, and that of what they are attached to: bases, ligatures or marks
abbrev pub table_of : Visit → List ℕ
table_of visit = visit.subtable.table.now

abbrev pub marks_of : Visit → List ℕ
marks_of visit = unwrap_or (table_at_16 (table_of visit) 8) []

abbrev pub bases_of : Visit → List ℕ
bases_of visit = unwrap_or (table_at_16 (table_of visit) 10) []

-- ---- the attachment

abbrev pub anchor_of : Visit → List ℕ → Option Anchor
anchor_of visit table = anchor table visit.instance None

-- a mark whose own anchor is at that of the glyph at a place
unfoldable pub from_own : Scale → ℕ → Anchor → Anchor → Attachment
from_own scale base own a = record {
  base = base;
  x = between own.x own.x_delta a.x a.x_delta scale.x scale.units_per_em;
  y = between own.y own.y_delta a.y a.y_delta scale.y scale.units_per_em;
}

-- the mark is put on a glyph so that its own anchor is at this one, or where it has none its origin
abbrev pub attachment_to : Visit → ℕ → Anchor → Attachment
attachment_to visit base a =
    let scale = visit.instance.scale in
    option_map_or (λ own. from_own scale base own a) (anchor_of visit (mark_anchor (marks_of visit) visit.index))
    (record {
      base = base;
      x = placed a.x a.x_delta scale.x scale.units_per_em;
      y = placed a.y a.y_delta scale.y scale.units_per_em;
    })

-- the anchor for the mark's class in a row of a matrix, which has a column for each class
abbrev pub anchor_for : Visit → List ℕ → ℕ → Option Anchor
anchor_for visit matrix row =
    option_and_then (λ classes.
    option_and_then (anchor_of visit) (anchor_in matrix row (mark_class (marks_of visit) visit.index) classes))
    (number_16 (table_of visit) 6)

-- the mark is attached to the glyph at a place by that anchor; where there is none, the subtable says nothing of it
unfoldable pub attachment_by : Visit → List ℕ → ℕ → ℕ → AttachmentFound
attachment_by visit matrix row base =
    option_map_or (λ a. Attached (attachment_to visit base a)) (anchor_for visit matrix row) Nothing

-- what becomes of the mark at a place: it hangs on its base, from which it may not be parted; without a base, another text before it
-- might have one
unfoldable pub mark_placed : ℕ → AttachmentFound → State → State
mark_placed place Nothing s = s
mark_placed place (NoBase from) s = concat_marked from (behind place) s
mark_placed place (Attached a) s =
    attachments_marked (on_positions (changed_at (mark_put place a.base a.x a.y) place) (break_marked a.base (behind place) s))

abbrev pub mark_next : ℕ → AttachmentFound → Option ℕ
mark_next place Nothing = None
mark_next place (NoBase from) = None
mark_next place (Attached a) = Some (behind place)

-- ---- the glyph that a mark is attached to

-- a mark, by its class (bit 3 of the properties); a glyph of a multiple substitution (bit 6)
abbrev pub is_mark : hb_glyph_info_t → Bool
is_mark g = share (props g) 8

abbrev pub is_multiplied : hb_glyph_info_t → Bool
is_multiplied g = share (props g) 64

-- in a multiple substitution a sequence goes on at a glyph: its component follows that of the glyph before it, which is no mark
abbrev pub goes_on : hb_glyph_info_t → hb_glyph_info_t → Bool
goes_on before g =
    not (is_mark before) && is_multiplied before && (ligature_id g == ligature_id before)
    && (ligature_component g == ligature_component before + 1)

-- whether the glyph at a place is the first glyph of a multiple substitution, or comes of none
unfoldable pub is_first_of_many : List hb_glyph_info_t → ℕ → Bool
is_first_of_many gs place =
    let g = glyph_at gs place in
    if (place == 0) || nat_le (length gs) place then true
    else not (is_multiplied g) || (ligature_component g == 0) || not (goes_on (glyph_at gs (place - 1)) g)

-- whether the subtable has an anchor for a glyph as one that marks are attached to
abbrev pub is_base : Visit → hb_glyph_info_t → Bool
is_base visit g = is_some (covered_index visit.subtable.bases.table.now g.glyph_id)

-- what marks are attached to is looked for with marks passed over (bit 3), whatever the lookup's flag
abbrev pub over_marks : Visit → SkippingIterator
over_marks visit = record visit.iterator { lookup_props = record { flags = 8; marks = visit.iterator.lookup_props.marks } }

-- whether the glyph at a place is one that a mark may be attached to: for bases of two glyphs of one multiple substitution the first,
-- unless the subtable has the other
abbrev pub is_taken : Bool → Visit → SkippingIterator → List hb_glyph_info_t → ℕ → Bool
is_taken is_for_bases visit w gs k =
    counts_at w gs k
    && (not is_for_bases || is_first_of_many gs k || (nat_lt k (length gs) && is_base visit (glyph_at gs k)))

-- the last place before one, and not before another, that passes a test
abbrev pub last_place : (ℕ → Bool) → ℕ → ℕ → Option ℕ
last_place test from zero = None
last_place test from (suc k) = if nat_lt k from then None else if test k then Some k else last_place test from k

-- What is remembered of bases, as HarfBuzz does: that which was found last, and up to where one was looked for. A mark before that
-- place begins anew.
abbrev pub nothing_sought : LastBase
nothing_sought = record { base = None; until = 0 }

abbrev pub remembered : Visit → LastBase → LastBase
remembered visit last = if nat_lt visit.place last.until then nothing_sought else last

unfoldable pub base_sought : Bool → Visit → List hb_glyph_info_t → LastBase → LastBase
base_sought is_for_bases visit gs last =
    let before = remembered visit last in
    record {
      base = option_or (last_place (is_taken is_for_bases visit (over_marks visit) gs) before.until visit.place) before.base;
      until = visit.place;
    }

-- the glyph that was found, by its place and its coverage index, if the subtable has it; else the place from which on another text before
-- the mark might have one
abbrev pub index_at : Visit → List hb_glyph_info_t → Option ℕ → Result (ℕ × ℕ) ℕ
index_at visit gs None = Err 0
index_at visit gs (Some place) =
    if nat_lt place (length gs)
    then option_map_or (λ index. Ok (place, index))
    (covered_index visit.subtable.bases.table.now (glyph_at gs place).glyph_id) (Err place)
    else Err 0

abbrev pub by_index : (ℕ → ℕ → AttachmentFound) → Result (ℕ × ℕ) ℕ → AttachmentFound
by_index attach (Ok at) = attach at.0 at.1
by_index attach (Err from) = NoBase from

-- where the mark is attached, if the subtable has that glyph
abbrev pub attached_at : Visit → List hb_glyph_info_t → (ℕ → ℕ → AttachmentFound) → Option ℕ → AttachmentFound
attached_at visit gs attach base = by_index attach (index_at visit gs base)

-- ---- marks on bases

unfoldable pub base_of : Visit → List hb_glyph_info_t → LastBase → AttachmentFound
base_of visit gs last = attached_at visit gs (λ place row. attachment_by visit (bases_of visit) row place) last.base

-- ---- marks on ligatures

-- the component of a ligature that a mark belongs to, counted from 1: that of its properties, and the last one where it belongs to none,
-- to another ligature, or to a component that the ligature has not
abbrev pub component_of : ℕ → hb_glyph_info_t → hb_glyph_info_t → ℕ
component_of count ligature mark =
    if not (ligature_id ligature == 0) && (ligature_id ligature == ligature_id mark) && not (ligature_component mark == 0)
    then min count (ligature_component mark) else count

-- the row of the component in the ligature's matrix; a ligature without components has none
unfoldable pub ligature_row : List ℕ → hb_glyph_info_t → hb_glyph_info_t → Option ℕ
ligature_row matrix ligature mark =
    option_and_then (λ count. let component = component_of count ligature mark in
    if component == 0 then None else Some (component - 1)) (number_16 matrix 0)

abbrev pub matrix_of : Visit → ℕ → List ℕ
matrix_of visit index = unwrap_or (ligature_matrix (bases_of visit) index) []

unfoldable pub ligature_of : Visit → List hb_glyph_info_t → LastBase → AttachmentFound
ligature_of visit gs last =
    attached_at visit gs (λ place index.
    option_map_or (λ row. attachment_by visit (matrix_of visit index) row place)
    (if nat_lt visit.place (length gs)
    then ligature_row (matrix_of visit index) (glyph_at gs place) (glyph_at gs visit.place) else None) (NoBase place)) last.base

-- ---- marks on marks

-- the glyph before the mark, whatever its class: the lookup's flag passes over none but marks of other classes or sets
abbrev pub over_no_class : Visit → SkippingIterator
over_no_class visit = record visit.iterator {
  lookup_props = record { flags = bit_and visit.iterator.lookup_props.flags 65521; marks = visit.iterator.lookup_props.marks };
}

-- whether two marks belong to the same glyph, or to the same component of a ligature, or one of them is a ligature itself
abbrev pub are_of_one_part : hb_glyph_info_t → hb_glyph_info_t → Bool
are_of_one_part mark other =
    if ligature_id mark == ligature_id other
    then (ligature_id mark == 0) || (ligature_component mark == ligature_component other)
    else (nat_lt 0 (ligature_id mark) && (ligature_component mark == 0))
    || (nat_lt 0 (ligature_id other) && (ligature_component other == 0))

abbrev pub is_fellow : List hb_glyph_info_t → ℕ → ℕ → Bool
is_fellow gs before place =
    nat_lt before (length gs) && nat_lt place (length gs) && is_mark (glyph_at gs before)
    && are_of_one_part (glyph_at gs place) (glyph_at gs before)

abbrev pub on_mark_at : Visit → List hb_glyph_info_t → Found → AttachmentFound
on_mark_at visit gs (At before) =
    if is_fellow gs before visit.place
    then attached_at visit gs (λ place row. attachment_by visit (bases_of visit) row place) (Some before) else NoBase before
on_mark_at visit gs (Other before) = NoBase (before - 1)
on_mark_at visit gs End = NoBase 0

abbrev pub before_mark : Visit → List hb_glyph_info_t → Found
before_mark visit gs = if nat_le visit.place (length gs) then previous_found (over_no_class visit) Shown gs visit.place else End

unfoldable pub mark_of : Visit → List hb_glyph_info_t → AttachmentFound
mark_of visit gs = on_mark_at visit gs (before_mark visit gs)

-- glyphs are not drawn in pixels, so that no anchor stands at a point of an outline
abbrev pub HasNoPixels : Instance → Type 0
HasNoPixels instance = (instance.scale.x_ppem ≡ 0) × (instance.scale.y_ppem ≡ 0)
