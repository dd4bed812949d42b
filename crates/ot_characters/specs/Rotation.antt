-- The other forms of characters in lines that run backward or are vertical (HarfBuzz, `hb_ot_rotate_chars`).
use Rattle.std.specs.Prelude.{ℕ, Bool, ◌==◌, ◌||◌, not, List, Option, Some, None, if◌then◌else◌}
use lib.Utf8.{scalar}
use Rattle.rb_common.specs.Direction.{is_forward, is_horizontal}
use Rattle.rb_common.specs.declared.direction.Direction.{Direction}
use Rattle.rb_glyph.specs.Characters.{vertical_forms}
use Rattle.rb_glyph.specs.Rows.{value_of}
use Rattle.rb_glyph.specs.declared.info.hb_glyph_info_t.{hb_glyph_info_t}
use Rattle.glyph_lists.specs.Marks.{with_glyph_flags}
use Rattle.script_items.specs.Marks.{category, is_mark}
use Rattle.script_items.specs.Spaces.{is_space}
use Rattle.ot_map.specs.declared.shape_plan.OtShapePlan.{OtShapePlan}
use Rattle.unicode_tables.specs.Mirrors.{mirror_images}
use Rattle.ot_characters.specs.Numbers.{is_letter}

-- ---- the forms of a character

-- what a table has of a code point, which has nothing where it is no character
abbrev pub form_in : List (ℕ × ℕ) → ℕ → Option ℕ
form_in rows c = if scalar c then value_of c rows else None

-- no letter, mark, digit or space has a mirror image
abbrev pub is_letter_or_mark : hb_glyph_info_t → Bool
is_letter_or_mark g = is_letter g || is_mark g

abbrev pub is_digit_or_space : hb_glyph_info_t → Bool
is_digit_or_space g = (category g == 13) || is_space g

abbrev pub may_be_mirrored : hb_glyph_info_t → Bool
may_be_mirrored g = not (is_letter_or_mark g || is_digit_or_space g)

-- the mirror image of a character, by a table of them
unfoldable pub mirror_image : List (ℕ × ℕ) → hb_glyph_info_t → Option ℕ
mirror_image rows g = if may_be_mirrored g then form_in rows g.glyph_id else None

-- the form of a character in vertical lines
unfoldable pub vertical_form : hb_glyph_info_t → Option ℕ
vertical_form g = form_in vertical_forms g.glyph_id

-- a form that the font has a glyph for
abbrev pub if_there : (ℕ → Bool) → Option ℕ → Option ℕ
if_there has None = None
if_there has (Some c) = if has c then Some c else None

-- ---- characters in them

-- the character in that form, or else what stands behind it
abbrev pub in_form : Option ℕ → hb_glyph_info_t → hb_glyph_info_t → hb_glyph_info_t
in_form None g other = other
in_form (Some c) g other = record g { glyph_id = c }

-- the mirror image in its place, or else with the bits of the feature of mirrored forms
unfoldable pub mirrored : (ℕ → Bool) → List (ℕ × ℕ) → ℕ → hb_glyph_info_t → hb_glyph_info_t
mirrored has rows rtlm g = in_form (if_there has (mirror_image rows g)) g (with_glyph_flags rtlm g)

-- the vertical form in its place
unfoldable pub upright : (ℕ → Bool) → hb_glyph_info_t → hb_glyph_info_t
upright has g = in_form (if_there has (vertical_form g)) g g

-- ---- and in a line

-- mirrored where the line runs backward
unfoldable pub turned : (ℕ → Bool) → OtShapePlan → Direction → hb_glyph_info_t → hb_glyph_info_t
turned has plan direction g = if is_forward direction then g else mirrored has mirror_images plan.rtlm_mask g

-- upright where the line is vertical, unless the font's own features make vertical forms
unfoldable pub raised : (ℕ → Bool) → OtShapePlan → Direction → hb_glyph_info_t → hb_glyph_info_t
raised has plan direction g = if is_horizontal direction || plan.has_vert then g else upright has g

-- both
unfoldable pub rotated : (ℕ → Bool) → OtShapePlan → Direction → hb_glyph_info_t → hb_glyph_info_t
rotated has plan direction g = raised has plan direction (turned has plan direction g)
