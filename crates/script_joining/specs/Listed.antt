-- How a character joins: as Unicode lists it.
use Rattle.std.specs.Prelude.{ℕ, Bool, List, [], ◌∷◌, Option, Some, None, option_map, unwrap_or, if◌then◌else◌}
use Rattle.std.specs.List.{find}
use Rattle.rb_glyph.specs.Rows.{is_in, ranges_apart}
use Rattle.script_joining.specs.declared.joining.kind.JoiningType.{JoiningType}
use Rattle.script_joining.specs.declared.joining.kind.JoiningType.TheVariants.{NonJoining, Transparent}
use Rattle.script_joining.specs.JoiningRows.{rows}
use Rattle.rb_glyph.specs.Categories.{category_of_char}
use Rattle.script_joining.specs.Joining.{is_transparent, number_of_type}
use Rattle.rb_glyph.specs.declared.info.hb_glyph_info_t.{hb_glyph_info_t}
use Rattle.script_items.specs.Item.{with_shaper_byte}
use Rattle.script_items.specs.Marks.{is_mark_or_format}

-- the characters of a row, from the first to the last
abbrev pub range_of : ℕ × ℕ × JoiningType → ℕ × ℕ
range_of row = (row.0, row.1)

abbrev pub are_apart : List (ℕ × ℕ × JoiningType) → Bool
are_apart listed = ranges_apart range_of listed

-- what the row that holds the character has
abbrev pub kind_in : ℕ → List (ℕ × ℕ × JoiningType) → Option JoiningType
kind_in c listed = option_map (λ row. row.2) (find (λ row. is_in c (range_of row)) listed)

-- as it is listed; else marks and format characters are transparent, and all others join on no side
unfoldable pub joining_type : ℕ → Bool → JoiningType
joining_type c is_passed =
    unwrap_or (kind_in c rows) (if is_passed then Transparent else NonJoining)

-- the item keeps the type of its character
unfoldable pub with_type : hb_glyph_info_t → hb_glyph_info_t
with_type g = with_shaper_byte (number_of_type (joining_type g.glyph_id (is_mark_or_format g))) g

-- the type of a character of the context
unfoldable pub type_of : ℕ → JoiningType
type_of c = joining_type c (is_transparent (category_of_char c))

-- a type that is not transparent, or else what is found beyond
abbrev pub found_or : JoiningType → Option JoiningType → Option JoiningType
found_or Transparent beyond = beyond
found_or kind beyond = Some kind

-- the first type of a context that is not transparent
abbrev pub first_type : List ℕ → Option JoiningType
first_type [] = None
first_type (c ∷ cs) = found_or (type_of c) (first_type cs)
