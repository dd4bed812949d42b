-- The direction in which a text is shaped (HarfBuzz, `hb_ensure_native_direction`).
use Rattle.std.specs.Prelude.{ℕ, Bool, true, false, not, ◌&&◌, Option, Some, None, if◌then◌else◌}
use Rattle.rb_common.specs.Direction.{direction_of, is_horizontal, reverse}
use Rattle.rb_common.specs.declared.direction.Direction.{Direction}
use Rattle.rb_common.specs.declared.direction.Direction.TheVariants.{LeftToRight, RightToLeft, TopToBottom}
use Rattle.shaping_buffer.specs.State.{State}
use Rattle.shaping_buffer.specs.ClusterStep.{any_order}
use Rattle.shaping_buffer.specs.GroupStep.{reverse_groups}
use Rattle.script_items.specs.Graphemes.{is_same_grapheme}
use Rattle.ot_characters.specs.Numbers.{are_numbers}

abbrev pub is_left_to_right : Direction → Bool
is_left_to_right LeftToRight = true
is_left_to_right _ = false

abbrev pub is_right_to_left : Direction → Bool
is_right_to_left RightToLeft = true
is_right_to_left _ = false

abbrev pub is_top_to_bottom : Direction → Bool
is_top_to_bottom TopToBottom = true
is_top_to_bottom _ = false

-- the way of a script: left to right where the text has none, and no way where it is written either way
unfoldable pub script_direction : Option ℕ → Option Direction
script_direction None = Some LeftToRight
script_direction (Some script) = direction_of script

-- a script that is written from right to left
abbrev pub runs_left : Option Direction → Bool
runs_left None = false
runs_left (Some own) = is_right_to_left own

-- a line from left to right in such a script
abbrev pub is_against_script : State → Bool
is_against_script s = is_left_to_right s.direction && runs_left (script_direction s.script)

-- the way of the text: alone, numbers run as such a line does
abbrev pub native_direction : State → Option Direction
native_direction s = if is_against_script s && are_numbers s.input then Some LeftToRight else script_direction s.script

-- a horizontal line the other way
abbrev pub differs : Direction → Direction → Bool
differs LeftToRight line = is_right_to_left line
differs RightToLeft line = is_left_to_right line
differs _ line = false

abbrev pub is_other : Option Direction → Direction → Bool
is_other None line = false
is_other (Some own) line = differs own line

-- the text runs against its script, or up or nowhere: vertical lines are shaped from top to bottom
unfoldable pub runs_against : State → Bool
runs_against s =
    if is_horizontal s.direction then is_other (native_direction s) s.direction else not (is_top_to_bottom s.direction)

-- the text the other way: its graphemes in reverse order, each in its own order. Where clusters stand in order each is one before.
unfoldable pub turned_to : Direction → State → State
turned_to direction s = record (reverse_groups is_same_grapheme (not (any_order s)) s) { direction = direction }

-- and only where it runs against its script
unfoldable pub in_native_direction : State → State
in_native_direction s = if runs_against s then turned_to (reverse s.direction) s else s
