-- Where marks stand around a base, by the bounds of both and by combining classes (HarfBuzz, `position_around_base`, `position_mark`;
-- Unicode Standard, "Combining Classes").
use Rattle.std.specs.Prelude.{◌≡◌, ◌≢◌, ◌<◌, ◌≤◌, ◌+◌, ◌-◌, ℕ, zero, suc, ℤ, pos, negsuc, Bool, true, false, not, ◌==◌, ◌||◌, ◌-ℤ◌, int_div, int_le, int_lt, nat_lt, if◌then◌else◌, ⊤}
use Rattle.std.specs.Prelude.{List, [], drop, length, slice_index_or, Option, None, Some, unwrap_or}
use Rattle.std.specs.List.{prefix_len}
use Rattle.std.specs.Int.{w32, int_wrapping_add, int_wrapping_mul, int_wrapping_neg, int_wrapping_sub}
use Rattle.std.specs.Ordering.{int_eq}
use Rattle.rb_common.specs.Direction.{direction_of, is_forward, is_horizontal}
use Rattle.rb_common.specs.declared.direction.Direction.{Direction}
use Rattle.rb_common.specs.declared.direction.Direction.TheVariants.{Invalid, LeftToRight, RightToLeft, TopToBottom, BottomToTop}
use Rattle.rb_glyph.specs.declared.info.hb_glyph_info_t.{hb_glyph_info_t}
use Rattle.rb_glyph.specs.declared.names.GlyphExtents.{GlyphExtents}
use Rattle.rb_glyph.specs.declared.position.GlyphPosition.{GlyphPosition}
use Rattle.ot_attachments.specs.Flags.{break_marked}
use Rattle.ot_layout.specs.LigatureParts.{component_count, ligature_component, ligature_id}
use Rattle.ot_lookups.specs.LookupProps.{glyph_at}
use Rattle.ot_positions.specs.ChangedAt.{position_changed}
use Rattle.ot_positions.specs.Widths.{without_advance}
use Rattle.script_items.specs.Marks.{is_mark, is_nonspacing, kept_class}
use Rattle.shaping_buffer.specs.ClusterStep.{unsafe_to_concat}
use Rattle.shaping_buffer.specs.Positions.{zero_position}
use Rattle.shaping_buffer.specs.State.{State}
use Rattle.ot_positioning.specs.declared.mark_placing.Line.{Line}
use Rattle.ot_positioning.specs.declared.mark_placing.Marks.{Marks}

-- ---- combining classes

-- between two letters: double below, double above
abbrev pub is_double : ℕ → Bool
is_double class = (class == 233) || (class == 234)

-- attached below left, below left, above left
abbrev pub is_left : ℕ → Bool
is_left class = (class == 200) || ((class == 218) || (class == 228))

-- attached above right, below right, above right
abbrev pub is_right : ℕ → Bool
is_right class = (class == 216) || ((class == 222) || (class == 232))

-- below left, below, below right, double below: there is a gap to what they stand under
abbrev pub is_below : ℕ → Bool
is_below class = (class == 218) || ((class == 220) || ((class == 222) || (class == 233)))

-- attached below left, attached below
abbrev pub is_attached_below : ℕ → Bool
is_attached_below class = (class == 200) || (class == 202)

-- above left, above, above right, double above: there is a gap to what they stand on
abbrev pub is_above : ℕ → Bool
is_above class = (class == 228) || ((class == 230) || ((class == 232) || (class == 234)))

-- attached above, attached above right
abbrev pub is_attached_above : ℕ → Bool
is_attached_above class = (class == 214) || (class == 216)

-- ---- across

-- the mark in the middle of what it is put around
unfoldable pub centred : ℤ → ℤ → ℤ
centred base mark = int_div (int_wrapping_sub w32 base mark) (pos 2)

-- a double mark in the middle of the side on which the next letter stands
unfoldable pub double_across : Direction → ℤ → ℤ → ℤ
double_across LeftToRight base mark = int_wrapping_sub w32 base (int_div mark (pos 2))
double_across RightToLeft base mark = int_wrapping_neg w32 (int_div mark (pos 2))
double_across TopToBottom base mark = centred base mark
double_across BottomToTop base mark = centred base mark
double_across Invalid base mark = centred base mark

-- from the left side of what a mark is put around to the left side of the mark, by the widths of both
unfoldable pub way_across : ℕ → Direction → ℤ → ℤ → ℤ
way_across class direction base mark =
    if is_double class then double_across direction base mark
    else if is_left class then pos 0
    else if is_right class then int_wrapping_sub w32 base mark
    else centred base mark

unfoldable pub across : ℕ → Direction → GlyphExtents → GlyphExtents → ℤ
across class direction base mark =
    int_wrapping_sub w32 (int_wrapping_add w32 base.x_bearing (way_across class direction base.width mark.width)) mark.x_bearing

-- ---- upwards

unfoldable pub bottom : GlyphExtents → ℤ
bottom e = int_wrapping_add w32 e.y_bearing e.height

-- a way is up that goes as the gap does, which is negative where the font's scale upwards is
unfoldable pub is_up : ℤ → ℤ → Bool
is_up gap way = if int_lt (pos 0) gap then int_lt (pos 0) way else int_le way (pos 0)

-- "Never shift up "below" marks."
unfoldable pub kept_down : ℤ → ℤ → ℤ
kept_down gap way = if is_up gap way then way else pos 0

-- "Don't shift down "above" marks too much.": half of the way
unfoldable pub kept_up : ℤ → ℤ → ℤ
kept_up gap way = if is_up gap way then pos 0 else int_div (int_wrapping_neg w32 way) (pos 2)

unfoldable pub way_below : GlyphExtents → GlyphExtents → ℤ
way_below base mark = int_wrapping_sub w32 (bottom base) mark.y_bearing

unfoldable pub way_above : GlyphExtents → GlyphExtents → ℤ
way_above base mark = int_wrapping_sub w32 base.y_bearing (bottom mark)

-- how far up a mark is moved that is put under others, or on them
unfoldable pub moved_below : ℤ → GlyphExtents → GlyphExtents → ℤ
moved_below gap base mark = int_wrapping_sub w32 (way_below base mark) (kept_down gap (way_below base mark))

unfoldable pub moved_above : ℤ → GlyphExtents → GlyphExtents → ℤ
moved_above gap base mark = int_wrapping_add w32 (way_above base mark) (kept_up gap (way_above base mark))

-- the bounds of these with the mark
unfoldable pub height_with : ℤ → ℤ → ℤ → ℤ
height_with height kept mark = int_wrapping_add w32 (int_wrapping_sub w32 height kept) mark

unfoldable pub top_with : ℤ → ℤ → ℤ → ℤ
top_with top kept mark = int_wrapping_sub w32 (int_wrapping_add w32 top kept) mark

unfoldable pub with_below : ℤ → GlyphExtents → GlyphExtents → GlyphExtents
with_below gap base mark = record base { height = height_with base.height (kept_down gap (way_below base mark)) mark.height }

unfoldable pub with_above : ℤ → GlyphExtents → GlyphExtents → GlyphExtents
with_above gap base mark = record base {
  y_bearing = top_with base.y_bearing (kept_up gap (way_above base mark)) mark.height;
  height = height_with base.height (kept_up gap (way_above base mark)) mark.height;
}

-- the bounds of these with the gap
unfoldable pub gap_below : ℤ → GlyphExtents → GlyphExtents
gap_below gap base = record base { height = int_wrapping_sub w32 base.height gap }

unfoldable pub gap_above : ℤ → GlyphExtents → GlyphExtents
gap_above gap base = record base {
  y_bearing = int_wrapping_add w32 base.y_bearing gap;
  height = int_wrapping_sub w32 base.height gap;
}

-- by the class of the mark
unfoldable pub upwards : ℤ → ℕ → GlyphExtents → GlyphExtents → ℤ
upwards gap class base mark =
    if is_below class then moved_below gap (gap_below gap base) mark
    else if is_attached_below class then moved_below gap base mark
    else if is_above class then moved_above gap (gap_above gap base) mark
    else if is_attached_above class then moved_above gap base mark
    else pos 0

unfoldable pub stacked : ℤ → ℕ → GlyphExtents → GlyphExtents → GlyphExtents
stacked gap class base mark =
    if is_below class then with_below gap (gap_below gap base) mark
    else if is_attached_below class then with_below gap base mark
    else if is_above class then with_above gap (gap_above gap base) mark
    else if is_attached_above class then with_above gap base mark
    else base

-- ---- components of a ligature

-- the way in which they stand is that of the line; in vertical lines that of the script, from left to right where the text has none
abbrev pub script_direction : Option ℕ → Option Direction
script_direction None = Some LeftToRight
script_direction (Some script) = direction_of script

abbrev pub horizontal_direction : Direction → Option ℕ → Option Direction
horizontal_direction direction script = if is_horizontal direction then Some direction else script_direction script

abbrev pub is_left_to_right : Direction → Bool
is_left_to_right LeftToRight = true
is_left_to_right _ = false

abbrev pub runs_right : Option Direction → Bool
runs_right None = false
runs_right (Some direction) = is_left_to_right direction

abbrev pub line_of : Direction → ℤ → State → Line
line_of direction gap s = record {
  direction = s.direction;
  components_run_right = runs_right (horizontal_direction direction s.script);
  gap = gap;
}

-- the component that a mark belongs to, from 0 on: the last one for a mark of another ligature, or of a component behind it
unfoldable pub component_of : ℕ × ℕ → ℕ → ℕ → ℤ
component_of parts ligature component =
    if (parts.0 == 0) || (not (parts.0 == ligature) || nat_lt parts.1 component) then pos parts.1 -ℤ pos 1
    else pos component -ℤ pos 1

-- how many components stand on the left of one
unfoldable pub steps_to : Bool → ℕ → ℤ → ℤ
steps_to run_right count number = if run_right then number else int_wrapping_sub w32 (pos count -ℤ pos 1) number

-- the part of the base that the component has, which is as wide as each other
unfoldable pub start_of : ℤ → ℤ → ℤ → ℕ → ℤ
start_of start steps width count = int_wrapping_add w32 start (int_div (int_wrapping_mul w32 steps width) (pos count))

unfoldable pub share_of : ℤ → ℕ → ℤ
share_of width count = int_div width (pos count)

unfoldable pub part_of : Bool → ℕ → ℤ → GlyphExtents → GlyphExtents
part_of run_right count number base = record base {
  x_bearing = start_of base.x_bearing (steps_to run_right count number) base.width count;
  width = share_of base.width count;
}

-- ---- one item behind the base after the other

-- The base, which is as wide as its advance across, and stands as much higher as it was moved up.
pub record IsBase (may_advance : ℤ → Type 0) (bounds : GlyphExtents) (p : GlyphPosition) (base : GlyphExtents) : Type 0 where
  pub width : may_advance base.width
  pub is : base
      ≡ record bounds { x_bearing = pos 0; y_bearing = int_wrapping_add w32 bounds.y_bearing p.y_offset; width = base.width }

-- how far it is back to the base
unfoldable pub back_from : Direction → GlyphPosition → ℤ × ℤ
back_from direction p =
    if is_forward direction then (int_wrapping_neg w32 p.x_advance, int_wrapping_neg w32 p.y_advance) else (pos 0, pos 0)

abbrev pub no_marks : Line → GlyphExtents → GlyphPosition → ℕ × ℕ → Marks
no_marks line base p parts = record {
  line = line;
  base = base;
  component = base;
  stack = base;
  parts = parts;
  last_component = negsuc 0;
  last_class = 255;
  back = back_from line.direction p;
}

-- an item that is no mark with a class is passed over
unfoldable pub farther : Direction → ℤ → ℤ → ℤ
farther direction back advance =
    if is_forward direction then int_wrapping_sub w32 back advance else int_wrapping_add w32 back advance

abbrev pub passed : GlyphPosition → Marks → Marks
passed p m = record m {
  back = (farther m.line.direction m.back.0 p.x_advance, farther m.line.direction m.back.1 p.y_advance);
}

-- marks are put around a component anew, unless the last one was of it too
unfoldable pub at_component : ℤ → Marks → Marks
at_component number m =
    if int_eq m.last_component number then m
    else record m {
      last_component = number;
      last_class = 255;
      component = part_of m.line.components_run_right m.parts.1 number m.base;
    }

unfoldable pub in_component : ℕ → ℕ → Marks → Marks
in_component ligature component m =
    if nat_lt m.parts.1 2 then m else at_component (component_of m.parts ligature component) m

-- and so are those of a class
unfoldable pub of_class : ℕ → Marks → Marks
of_class class m = if m.last_class == class then m else record m { last_class = class; stack = m.component }

-- a mark, of which the font may have no bounds, stands with the others of its class
unfoldable pub stack_with : ℤ → ℕ → Option GlyphExtents → GlyphExtents → GlyphExtents
stack_with gap class None base = base
stack_with gap class (Some mark) base = stacked gap class base mark

unfoldable pub with_mark : ℕ → Option GlyphExtents → Marks → Marks
with_mark class mark m = record m { stack = stack_with m.line.gap class mark m.stack }

-- it stands so far from the base, if it has bounds
unfoldable pub put : Marks → ℕ → Option GlyphExtents → GlyphPosition → GlyphPosition
put m class None p = p
put m class (Some mark) p = record p {
  x_offset = across class m.line.direction m.stack mark;
  y_offset = upwards m.line.gap class m.stack mark;
}

-- to which it is so far back, and takes no room
unfoldable pub moved_back : ℤ × ℤ → GlyphPosition → GlyphPosition
moved_back back p = record p {
  x_advance = pos 0;
  y_advance = pos 0;
  x_offset = int_wrapping_add w32 p.x_offset back.0;
  y_offset = int_wrapping_add w32 p.y_offset back.1;
}

-- the marks that it is put to
abbrev pub chosen : hb_glyph_info_t → Marks → Marks
chosen g m = of_class (kept_class g) (in_component (ligature_id g) (ligature_component g) m)

-- what a mark, of which the font has these bounds or none, makes of the marks so far, and they of its position
unfoldable pub marks_with : hb_glyph_info_t → Option GlyphExtents → Marks → Marks
marks_with g bounds m = with_mark (kept_class g) bounds (chosen g m)

unfoldable pub placed_by : hb_glyph_info_t → Option GlyphExtents → Marks → GlyphPosition → GlyphPosition
placed_by g bounds m p = moved_back (chosen g m).back (put (chosen g m) (kept_class g) bounds p)

-- an item behind a base
pub record IsPlaced (g : hb_glyph_info_t) (old : Marks) (from : GlyphPosition) (new : Marks) (to : GlyphPosition) : Type 0 where
  pub item : kept_class g ≡ 0 → (new ≡ passed from old) × (to ≡ from)
  pub mark : kept_class g ≢ 0
      → (bounds : Option GlyphExtents) × ((new ≡ marks_with g bounds old) × (to ≡ placed_by g bounds old from))

-- What marks are put around, with none yet: an item at its position. The font may have no bounds of it.
pub record IsBegunBy (may_advance : ℕ → ℤ → Type 0) (line : Line) (g : hb_glyph_info_t) (p : GlyphPosition) (m : Marks) : Type 0 where
  pub bounds : GlyphExtents
  pub base : GlyphExtents
  pub stands : IsBase (may_advance g.glyph_id) bounds p base
  pub is : m ≡ no_marks line base p (ligature_id g, component_count g)

abbrev pub IsBegun : (ℕ → ℤ → Type 0) → Line → hb_glyph_info_t → GlyphPosition → Option Marks → Type 0
IsBegun may_advance line g p None = ⊤
IsBegun may_advance line g p (Some m) = IsBegunBy may_advance line g p m

-- An item behind a base. Where there is nothing to put marks around, those without width take no room.
abbrev pub IsBehind : Bool → hb_glyph_info_t → Option Marks → GlyphPosition → Option Marks → GlyphPosition → Type 0
IsBehind adjusts g None from None to = to ≡ (if is_nonspacing g then without_advance adjusts from else from)
IsBehind adjusts g None from (Some new) to = ⊥
IsBehind adjusts g (Some old) from None to = ⊥
IsBehind adjusts g (Some old) from (Some new) to = IsPlaced g old from new to

-- ---- the marks of a text

-- where the marks end that stand behind an item; behind a mark there are none of its own
abbrev pub marks_end : List hb_glyph_info_t → ℕ → ℕ
marks_end gs place =
    if is_mark (glyph_at gs place) then place + 1 else place + 1 + prefix_len is_mark (drop (place + 1) gs)

abbrev pub position_at : ℕ → State → GlyphPosition
position_at place s = slice_index_or (unwrap_or s.positions []) place zero_position

-- one step of a text, and of what marks are put around, and then others
pub record IsThen (one others : State → Option Marks → Type 0) : Type 0 where
  pub mid : State
  pub marks : Option Marks
  pub first : one mid marks
  pub rest : others mid marks

-- the item at a place behind a base: its position alone changes
pub record IsPlacedAt (adjusts : Bool) (place : ℕ) (old : State) (m : Option Marks) (new : State) (n : Option Marks) : Type 0 where
  pub position : GlyphPosition
  pub placed : IsBehind adjusts (glyph_at old.input place) m (position_at place old) n position
  pub changed : new ≡ position_changed (λ _. position) place old

-- so many of them from a place on, one after the other
unfoldable pub ArePlaced : Bool → ℕ → ℕ → State → Option Marks → State → Type 0
ArePlaced adjusts zero place old m new = new ≡ old
ArePlaced adjusts (suc count) place old m new =
    IsThen (IsPlacedAt adjusts place old m) (λ mid n. ArePlaced adjusts count (place + 1) mid n new)

-- the marks of a base, which end before a place
pub record IsPutAround (may_advance : ℕ → ℤ → Type 0) (line : Line) (adjusts : Bool) (place end : ℕ) (old new : State) : Type 0 where
  pub marks : Option Marks
  pub begun : IsBegun may_advance line (glyph_at old.input place) (position_at place old) marks
  pub placed : ArePlaced adjusts (end - (place + 1)) (place + 1) old marks new

-- an item of a text: if it is a base that has marks, the text is not to be broken between them, and they are put around it
pub record IsDoneAt (may_advance : ℕ → ℤ → Type 0) (line : Line) (adjusts : Bool) (place : ℕ) (old new : State) : Type 0 where
  pub none : marks_end old.input place ≤ place + 1 → new ≡ old
  pub some : place + 1 < marks_end old.input place
      → IsPutAround may_advance line adjusts place (marks_end old.input place)
      (break_marked place (marks_end old.input place) old) new

pub record IsDoneThen (one others : State → Type 0) : Type 0 where
  pub mid : State
  pub first : one mid
  pub rest : others mid

-- so many items from a place on, one after the other
unfoldable pub AreDone : (ℕ → ℤ → Type 0) → Line → Bool → ℕ → ℕ → State → State → Type 0
AreDone may_advance line adjusts zero place old new = new ≡ old
AreDone may_advance line adjusts (suc count) place old new =
    IsDoneThen (IsDoneAt may_advance line adjusts place old)
    (λ mid. AreDone may_advance line adjusts count (place + 1) mid new)

-- marks that begin the text have no base: behind another text they might have one
abbrev pub baseless_marked : State → State
baseless_marked s = unsafe_to_concat (Some 0) (Some (prefix_len is_mark s.input)) s

-- `position_marks`
abbrev pub AreMarksPlaced : (ℕ → ℤ → Type 0) → Line → Bool → State → State → Type 0
AreMarksPlaced may_advance line adjusts old new =
    let s = baseless_marked old in AreDone may_advance line adjusts (length s.input) 0 s new
