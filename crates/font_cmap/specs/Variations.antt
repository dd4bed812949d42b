-- Format 14: variation sequences, a character and a variation selector.
use Rattle.std.specs.Prelude.{ℕ, List, [], Bool, Option, Some, None, ◌+◌, ◌*◌, nat_le, is_some}
use Rattle.std.specs.Prelude.{if◌then◌else◌}
use Rattle.std.specs.Prelude.{unwrap_or, option_and_then, option_map, length}
use Rattle.std.specs.Option.{option_map_or}
use Rattle.font_tables.specs.Bytes.{byte_at, number_16, number_24, number_32, table_at_32}
use Rattle.font_tables.specs.Bisection.{beside_key, beside_range, row_with}
use Rattle.std.specs.declared.cmp.Ordering.{Ordering}
use Rattle.font_cmap.specs.declared.variations.GlyphVariant.{GlyphVariant}
use Rattle.font_cmap.specs.declared.variations.GlyphVariant.TheVariants.{NotFound, UseDefault, Found}
use Rattle.font_cmap.specs.Subtables.{some_glyph}

-- the variation selectors, a row for each
unfoldable pub selector_count : List ℕ → ℕ
selector_count bs = unwrap_or (number_32 bs 6) 0

abbrev pub selector_at : List ℕ → ℕ → Option ℕ
selector_at bs row = number_24 bs (10 + 11 * row)

abbrev pub beside_selector : List ℕ → ℕ → ℕ → Option Ordering
beside_selector bs selector row = beside_key (selector_at bs row) selector

-- the tables that a row leads to, which are empty where it leads nowhere: the characters that keep their glyph before
-- the selector, and those that have another glyph there
unfoldable pub default_characters : List ℕ → ℕ → List ℕ
default_characters bs row = unwrap_or (table_at_32 bs (13 + 11 * row)) []

unfoldable pub own_glyphs : List ℕ → ℕ → List ℕ
own_glyphs bs row = unwrap_or (table_at_32 bs (17 + 11 * row)) []

-- how many rows of `size` bytes such a table has: none where they do not all lie in it
unfoldable pub rows_declared : List ℕ → ℕ → ℕ
rows_declared bs size =
    let count = unwrap_or (number_32 bs 0) 0 in if nat_le (4 + size * count) (length bs) then count else 0

-- ranges of characters: a first one, and how many follow it
abbrev pub range_start : List ℕ → ℕ → Option ℕ
range_start bs row = number_24 bs (4 + 4 * row)

unfoldable pub range_end : List ℕ → ℕ → Option ℕ
range_end bs row =
    option_and_then (λ start. option_map (λ more. start + more) (byte_at bs (7 + 4 * row))) (range_start bs row)

unfoldable pub range_count : List ℕ → ℕ
range_count bs = rows_declared bs 4

abbrev pub beside_characters : List ℕ → ℕ → ℕ → Option Ordering
beside_characters bs character row = beside_range (range_start bs row) (range_end bs row) character

-- whether bisection finds a range that holds the character
unfoldable pub in_ranges : List ℕ → ℕ → Bool
in_ranges bs character = is_some (row_with (beside_characters bs character) (range_count bs))

-- characters, with a glyph for each
abbrev pub mapped_at : List ℕ → ℕ → Option ℕ
mapped_at bs row = number_24 bs (4 + 5 * row)

abbrev pub beside_mapped : List ℕ → ℕ → ℕ → Option Ordering
beside_mapped bs character row = beside_key (mapped_at bs row) character

unfoldable pub mapped_count : List ℕ → ℕ
mapped_count bs = rows_declared bs 5

unfoldable pub mapped_glyph : List ℕ → ℕ → Option ℕ
mapped_glyph bs character =
    option_and_then (λ row. option_and_then some_glyph (number_16 bs (7 + 5 * row)))
    (row_with (beside_mapped bs character) (mapped_count bs))

-- a glyph that was found, and none
abbrev pub found_glyph : Option ℕ → GlyphVariant
found_glyph None = NotFound
found_glyph (Some glyph) = Found (record { 0 = glyph })

-- the glyph of a character before the selector of a row
unfoldable pub variant_in_row : List ℕ → ℕ → ℕ → GlyphVariant
variant_in_row bs character row =
    if in_ranges (default_characters bs row) character then UseDefault
    else found_glyph (mapped_glyph (own_glyphs bs row) character)

-- the glyph of a variation sequence
unfoldable pub glyph_variant : List ℕ → ℕ → ℕ → GlyphVariant
glyph_variant bs character selector =
    option_map_or (variant_in_row bs character) (row_with (beside_selector bs selector) (selector_count bs)) NotFound
