-- The order of the glyphs of a syllable.
use Rattle.std.specs.Prelude.{ℕ, ◌||◌, List, length, map, take, nat_lt, nat_le, if◌then◌else◌}
use Rattle.rb_glyph.specs.declared.info.hb_glyph_info_t.{hb_glyph_info_t}
use Rattle.glyph_lists.specs.Parts.{on_part}
use Rattle.script_syllables.specs.Category.{number_of_position}
use Rattle.script_syllables.specs.Item.{position}
use Rattle.shaping_passes.specs.NormalizationOrder.{Classes, sorted}

-- the number of the position of an item, which rises from the left to the right
abbrev pub position_number : Classes
position_number g = number_of_position (position g)

-- The items from a place to another in the order of their positions, those of one position in the order in which they stood; a range that
-- does not lie in the list stays as it is.
unfoldable pub in_order : ℕ → ℕ → List hb_glyph_info_t → List hb_glyph_info_t
in_order start end l =
    if nat_le end start || nat_lt (length l) end then l else on_part (sorted position_number) l start end

-- the glyphs, and those before a place
abbrev pub glyphs : List hb_glyph_info_t → List ℕ
glyphs l = map (λ g. g.glyph_id) l

abbrev pub glyphs_before : ℕ → List hb_glyph_info_t → List ℕ
glyphs_before place l = take place (glyphs l)
