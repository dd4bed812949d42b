-- What the shapers of syllables keep with an item, and what became of its glyph (HarfBuzz, `hb-ot-layout.hh`).
use Rattle.std.specs.Prelude.{ℕ, ◌+◌, ◌%◌, ◌==◌, ◌&&◌, ◌||◌, Bool, not, List, [], drop, length, min, slice_get, unwrap_or}
use Rattle.std.specs.Prelude.{option_map, bit_and, nat_lt, nat_le, if◌then◌else◌}
use Rattle.std.specs.List.{position_or_len}
use Rattle.glyph_lists.specs.Marks.{with_glyph_flags}
use Rattle.glyph_lists.specs.Parts.{map_range, part}
use Rattle.rb_glyph.specs.Fields.{field, with_field}
use Rattle.rb_glyph.specs.declared.info.hb_glyph_info_t.{hb_glyph_info_t}
use Rattle.script_items.specs.Item.{shaper_byte, with_shaper_byte}
use Rattle.script_syllables.specs.Category.{category_of_number, number_of_category, same_category, takes_signs}
use Rattle.script_syllables.specs.Category.{position_of_number, number_of_position, same_position}
use Rattle.script_syllables.specs.declared.category.Category.{Category}
use Rattle.script_syllables.specs.declared.category.Category.TheVariants as own
use Rattle.script_syllables.specs.declared.category.position.Position.{Position}

-- ---- the category in the third byte of the second variable, and the position in the byte above it

abbrev pub category_byte : hb_glyph_info_t → ℕ
category_byte g = field g.var2 16 8

abbrev pub with_category_byte : ℕ → hb_glyph_info_t → hb_glyph_info_t
with_category_byte byte g = record g { var2 = with_field g.var2 16 8 byte }

abbrev pub category : hb_glyph_info_t → Category
category g = category_of_number (category_byte g)

abbrev pub with_category : Category → hb_glyph_info_t → hb_glyph_info_t
with_category c g = with_category_byte (number_of_category c) g

abbrev pub position : hb_glyph_info_t → Position
position g = position_of_number (shaper_byte g)

abbrev pub with_position : Position → hb_glyph_info_t → hb_glyph_info_t
with_position p g = with_shaper_byte (number_of_position p) g

-- the universal shaper, which has no positions, marks there what syllables pass over
abbrev pub is_passed_over : hb_glyph_info_t → Bool
is_passed_over g = nat_lt 0 (shaper_byte g)

-- how many of the first items they pass over, if they do
abbrev pub passed_count : Bool → List hb_glyph_info_t → ℕ
passed_count passes l = if passes then position_or_len (λ g. not (is_passed_over g)) l else 0

-- ---- what lookups made of the glyph: another one (16), a ligature (32), several (64)

abbrev pub has_property : ℕ → hb_glyph_info_t → Bool
has_property bits g = not (bit_and (field g.var1 0 16) bits == 0)

abbrev pub is_substituted : hb_glyph_info_t → Bool
is_substituted g = has_property 16 g

abbrev pub is_ligated : hb_glyph_info_t → Bool
is_ligated g = has_property 32 g

abbrev pub is_multiplied : hb_glyph_info_t → Bool
is_multiplied g = has_property 64 g

-- a ligature, and not one of several that were made of it (HarfBuzz, `_hb_glyph_info_ligated_and_didnt_multiply`)
abbrev pub is_whole_ligature : hb_glyph_info_t → Bool
is_whole_ligature g = is_ligated g && not (is_multiplied g)

-- neither, and all other properties stay (HarfBuzz, `_hb_glyph_info_clear_ligated_and_multiplied`)
abbrev pub without_ligature : hb_glyph_info_t → hb_glyph_info_t
without_ligature g = record g { var1 = with_field g.var1 0 16 (bit_and (field g.var1 0 16) 0xFF9F) }

-- not put there by a lookup (HarfBuzz, `_hb_glyph_info_clear_substituted`)
abbrev pub without_substitution : hb_glyph_info_t → hb_glyph_info_t
without_substitution g = record g { var1 = with_field g.var1 0 16 (bit_and (field g.var1 0 16) 0xFFEF) }

-- whether it has a category, or a position
abbrev pub is_of : Category → hb_glyph_info_t → Bool
is_of c g = same_category (category g) c

abbrev pub stands_at : Position → hb_glyph_info_t → Bool
stands_at p g = same_position (position g) p

-- the category, and no ligature, for of that "all bets are off" (HarfBuzz, `is_one_of`)
abbrev pub is_one : Category → hb_glyph_info_t → Bool
is_one c g = not (is_ligated g) && is_of c g

-- a consonant, or what takes signs as one
abbrev pub is_consonant : hb_glyph_info_t → Bool
is_consonant g = not (is_ligated g) && takes_signs (category g)

abbrev pub is_halant : hb_glyph_info_t → Bool
is_halant g = is_one own.Halant g

abbrev pub is_joiner : hb_glyph_info_t → Bool
is_joiner g = is_one own.Joiner g || is_one own.NonJoiner g

-- the place behind the joiners that stand from a place on
abbrev pub behind_joiners : List hb_glyph_info_t → ℕ → ℕ
behind_joiners l start = start + position_or_len (λ g. not (is_joiner g)) (drop start l)

-- ---- its syllable: the number in the high half of a byte, and the kind in the low one

abbrev pub syllable : hb_glyph_info_t → ℕ
syllable g = field g.var1 24 8

abbrev pub syllable_kind : hb_glyph_info_t → ℕ
syllable_kind g = syllable g % 16

-- the kind of the syllable at a place; behind the list 15, which no kind has
abbrev pub kind_at : List hb_glyph_info_t → ℕ → ℕ
kind_at l place = unwrap_or (option_map syllable_kind (slice_get l place)) 15

-- the items of a range; none where it does not lie in the list
abbrev pub items_between : ℕ → ℕ → List hb_glyph_info_t → List hb_glyph_info_t
items_between start end l = if nat_le start end && nat_le end (length l) then part l start end else []

-- those from a place to another, as far as the list goes, with the features of a mask
abbrev pub masked : ℕ → ℕ → ℕ → List hb_glyph_info_t → List hb_glyph_info_t
masked mask start end l =
    if nat_le start (min end (length l)) then map_range (with_glyph_flags mask) l start (min end (length l)) else l
