-- The positions of items before the basic features (HarfBuzz, `initial_reordering_consonant_syllable`).
use Rattle.std.specs.Prelude.{ℕ, ◌++◌, List, drop, map, nat_le, set, take, if◌then◌else◌}
use Rattle.rb_glyph.specs.declared.info.hb_glyph_info_t.{hb_glyph_info_t}
use Rattle.script_syllables.specs.Category.{number_of_position}
use Rattle.script_syllables.specs.Item.{position, with_position}
use Rattle.script_syllables.specs.declared.category.position.Position.{Position}
use Rattle.script_syllables.specs.declared.category.position.Position.TheVariants as spot
use Rattle.script_indic.specs.Base.{glyph_at}
use Rattle.script_indic.specs.declared.base.Base.{Base}

-- a position, or another where that comes first
abbrev pub no_later : Position → Position → Position
no_later other p = if nat_le (number_of_position p) (number_of_position other) then p else other

-- what stands before the base belongs no later than consonants do there
abbrev pub before_base : hb_glyph_info_t → hb_glyph_info_t
before_base g = with_position (no_later spot.PreConsonant (position g)) g

abbrev pub with_items_before : ℕ → List hb_glyph_info_t → List hb_glyph_info_t
with_items_before place l = map before_base (take place l) ++ drop place l

-- the item at a place, if there is one, belongs there
abbrev pub placed_at : Position → ℕ → List hb_glyph_info_t → List hb_glyph_info_t
placed_at p place l = set l place (with_position p (glyph_at l place))

-- the base and what stands before it, of which the first is a reph where there is one
abbrev pub with_base : Base → List hb_glyph_info_t → List hb_glyph_info_t
with_base base l =
    let placed = placed_at spot.Base base.place (with_items_before base.place l) in
    if base.has_reph then placed_at spot.Reph 0 placed else placed
