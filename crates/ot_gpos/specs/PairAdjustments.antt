-- Adjustments of pairs, at their first glyph (OpenType, "Pair adjustment").
use Rattle.std.specs.Prelude.{ℕ, ◌-◌, ◌&&◌, ◌||◌, Bool, true, false, not, List, [], Option, None, Some, length}
use Rattle.std.specs.Prelude.{if◌then◌else◌, nat_eq, nat_lt, min, unwrap_or, option_and_then}
use Rattle.std.specs.Option.{option_map_or}
use Rattle.rb_common.specs.Direction.{is_horizontal}
use Rattle.rb_glyph.specs.declared.info.hb_glyph_info_t.{hb_glyph_info_t}
use Rattle.rb_glyph.specs.declared.position.GlyphPosition.{GlyphPosition}
use Rattle.shaping_buffer.specs.State.{State}
use Rattle.ot_lookups.specs.Lookup.{is_for}
use Rattle.ot_layout.specs.SkippingIterator.{class_in, next_found}
use Rattle.ot_lookups.specs.LookupProps.{glyph_at}
use Rattle.ot_lookups.specs.declared.subtable_kind.SubtableKind.{SubtableKind}
use Rattle.ot_lookups.specs.declared.subtable_kind.SubtableKind.TheVariants.{PairAdjustment}
use Rattle.ot_lookups.specs.declared.subtable_kind.PairFormat.TheVariants as format
use Rattle.ot_layout.specs.declared.matcher.Matcher.TheVariants.{Shown}
use Rattle.ot_layout.specs.declared.skipping_iterator.Found.{Found}
use Rattle.ot_layout.specs.declared.skipping_iterator.Found.TheVariants.{At, Other, End}
use Rattle.ot_gpos_tables.specs.Pairs.{classed_pair, listed_pair, number, pair_set}
use Rattle.ot_gpos_tables.specs.Values.{has_effect, moved}
use Rattle.ot_gpos_tables.specs.declared.pairs.PairValues.{PairValues}
use Rattle.ot_attachments.specs.Flags.{break_marked, concat_marked}
use Rattle.ot_attachments.specs.Places.{behind, some_place}
use Rattle.ot_attachments.specs.Placing.{changed_at, on_positions}
use Rattle.ot_gpos.specs.Visit.{Visit}

-- the bytes of the subtable
abbrev pub table_of : Visit → List ℕ
table_of visit = visit.subtable.table.now

-- whether pairs have records for their second glyphs
abbrev pub uses_second : Visit → Bool
uses_second visit = not (nat_eq (number (table_of visit) 6) 0)

-- whether pairs are those of two classes
abbrev pub is_classed : SubtableKind → Bool
is_classed (PairAdjustment format.Classes) = true
is_classed _ = false

-- from where the offsets of device tables are counted: the subtable of classes, or the set of the first glyph's pairs
abbrev pub pair_base : Visit → List ℕ
pair_base visit = if is_classed visit.subtable.kind then table_of visit else unwrap_or (pair_set (table_of visit) visit.index) []

-- the records of a pair in a set of pairs; no glyph past 65,535 is in one
abbrev pub listed_records : Visit → ℕ → List ℕ → Option PairValues
listed_records visit second set =
    if nat_lt second 65536 then listed_pair set (number (table_of visit) 4) (number (table_of visit) 6) second else None

-- The records of two glyphs: those of the second one in the set of the first, or those of their classes.
abbrev pub records_by : SubtableKind → Visit → ℕ → ℕ → Option PairValues
records_by (PairAdjustment format.Glyphs) visit first second =
    option_and_then (listed_records visit second) (pair_set (table_of visit) visit.index)
records_by (PairAdjustment format.Classes) visit first second =
    classed_pair (table_of visit) (class_in visit.subtable.classes.table.now first)
    (class_in visit.subtable.lookahead_classes.table.now second)
records_by _ visit first second = None

unfoldable pub pair_records : Visit → ℕ → ℕ → Option PairValues
pair_records visit first second = records_by visit.subtable.kind visit first second

-- whether records may move a pair in a line of this direction
abbrev pub pair_has_effect : Visit → Bool → PairValues → Bool
pair_has_effect visit is_horizontal v =
    has_effect visit.instance is_horizontal v.first
    || (uses_second visit && has_effect visit.instance is_horizontal v.second)

-- a pair is moved: the first glyph by the first record, and the second by the second, where pairs have one
unfoldable pub pair_moved : Visit → Bool → PairValues → ℕ → List GlyphPosition → List GlyphPosition
pair_moved visit is_horizontal v second ps =
    let first_moved = changed_at (moved (pair_base visit) visit.instance is_horizontal v.first) visit.place ps in
    if uses_second visit
    then changed_at (moved (pair_base visit) visit.instance is_horizontal v.second) second first_moved else first_moved

-- whether the lookup may do something at a glyph between those of a pair that ends before a place
abbrev pub passes_over_first : Visit → ℕ → List hb_glyph_info_t → Bool
passes_over_first visit end gs =
    let to = min (end - 1) (length gs) in
    some_place (λ k. is_for visit.lookup visit.iterator.mask (glyph_at gs k)) (behind visit.place) (to - behind visit.place)

-- the glyphs that a pair passes over may not be parted from the first, where one of them might be moved if a line began there
abbrev pub parted : Visit → ℕ → State → State
parted visit end s = if passes_over_first visit end s.input then break_marked visit.place (end - 1) s else s

-- A pair that is not moved parts from none of them, and is unsafe to concatenate, as another second glyph might be moved.
unfoldable pub unmoved : Visit → ℕ → State → State
unmoved visit end s = concat_marked visit.place end (parted visit end s)

-- a pair that records move, or that stays
abbrev pub moved_or_not : Visit → ℕ → PairValues → State → State
moved_or_not visit second v s =
    if pair_has_effect visit (is_horizontal s.direction) v
    then break_marked visit.place (behind second) (on_positions (pair_moved visit (is_horizontal s.direction) v second) s)
    else unmoved visit (behind second) s

-- The pair with the glyph at a place is adjusted by its records. Where pairs have records for second glyphs, the glyph behind the
-- second may not be parted from the pair either: the lookup goes on there.
unfoldable pub adjusted : Visit → ℕ → PairValues → State → State
adjusted visit second v s =
    if uses_second visit then break_marked visit.place (behind (behind second)) (moved_or_not visit second v s)
    else moved_or_not visit second v s

-- the records of the pair with the glyph at a place
abbrev pub records_with : Visit → ℕ → State → Option PairValues
records_with visit second s = pair_records visit (glyph_at s.input visit.place).glyph_id (glyph_at s.input second).glyph_id

-- what becomes of a glyph by the one that follows it, if any: nothing but flags, where the subtable does not have the pair
abbrev pub pair_with : Visit → Found → State → State
pair_with visit (At second) s =
    option_map_or (λ v. adjusted visit second v s) (records_with visit second s) (concat_marked visit.place (behind second) s)
pair_with visit (Other next) s = concat_marked visit.place (behind next) s
pair_with visit End s = concat_marked visit.place (length s.input) s

-- where the lookup goes on: at the second glyph, or behind it where that was adjusted too
abbrev pub next_with : Visit → Found → State → Option ℕ
next_with visit (At second) s =
    option_map_or (λ v. Some (if uses_second visit then behind second else second)) (records_with visit second s) None
next_with visit (Other next) s = None
next_with visit End s = None

-- the next glyph that the lookup does not pass over
abbrev pub second_of : Visit → State → Found
second_of visit s = next_found visit.iterator Shown s.input visit.place

-- A subtable of pairs adjusts its glyph and the next one that the lookup does not pass over.
abbrev pub pair : Visit → State → State
pair visit s = if nat_lt visit.place (length s.input) then pair_with visit (second_of visit s) s else s

abbrev pub pair_next : Visit → State → Option ℕ
pair_next visit s = if nat_lt visit.place (length s.input) then next_with visit (second_of visit s) s else None
