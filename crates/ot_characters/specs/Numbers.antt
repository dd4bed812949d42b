-- Letters and numbers of a line that runs against its script, by the numbers of their general categories: letters have 5 to 9, digits 13.
use Rattle.std.specs.Prelude.{◌==◌, ◌&&◌, ◌||◌, Bool, not, List, nat_le, if◌then◌else◌}
use Rattle.std.specs.List.{list_any}
use Rattle.rb_glyph.specs.declared.info.hb_glyph_info_t.{hb_glyph_info_t}
use Rattle.script_items.specs.Marks.{category}
use Rattle.script_items.specs.declared.ties.Tie.{Tie}
use Rattle.script_items.specs.declared.ties.Tie.TheVariants.{Anchor, Hanging, Loose}

abbrev pub is_letter : hb_glyph_info_t → Bool
is_letter g = nat_le 5 (category g) && nat_le (category g) 9

-- a digit, or one of two regional indicators that make a flag
abbrev pub is_number : hb_glyph_info_t → Bool
is_number g = (category g == 13) || (nat_le 0x1F1E6 g.glyph_id && nat_le g.glyph_id 0x1F1FF)

-- digits or flags, and no letters
abbrev pub are_numbers : List hb_glyph_info_t → Bool
are_numbers l = not (list_any is_letter l) && list_any is_number l

-- in a line that is turned numbers hang on letters
abbrev pub tie_to_letters : hb_glyph_info_t → Tie
tie_to_letters g = if is_letter g then Anchor else if is_number g then Hanging else Loose

-- in one that is not turned what is no number hangs on numbers
abbrev pub tie_to_numbers : hb_glyph_info_t → Tie
tie_to_numbers g = if is_number g then Anchor else Hanging
