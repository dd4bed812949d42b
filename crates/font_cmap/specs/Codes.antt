-- The codes that an encoding has for a character, and the character's glyph.
use Rattle.std.specs.Prelude.{ℕ, List, Option, Some, None, ◌+◌, ◌==◌, nat_lt, if◌then◌else◌}
use Rattle.std.specs.Prelude.{option_and_then, option_map, find, position}
use Rattle.std.specs.Option.{option_or}
use Rattle.font_cmap.specs.declared.codes.Encoding.{Encoding}
use Rattle.font_cmap.specs.declared.codes.Encoding.TheVariants.{Unicode, Symbol, SimplifiedArabic}
use Rattle.font_cmap.specs.declared.codes.Encoding.TheVariants.{TraditionalArabic}
use Rattle.font_cmap.specs.declared.codes.Encoding.TheVariants.{MacintoshRoman, Macintosh}
use Rattle.font_cmap.specs.LegacyCodes.{macintosh_roman, simplified_arabic, traditional_arabic}
use Rattle.font_cmap.specs.Subtables.{subtable_glyph}
use Rattle.font_cmap.specs.declared.variations.GlyphVariant.{GlyphVariant}
use Rattle.font_cmap.specs.declared.variations.GlyphVariant.TheVariants.{NotFound, UseDefault, Found}
use Rattle.font_cmap.specs.Variations.{glyph_variant}

-- the character's own number, of which encodings of the Macintosh share those of ASCII
unfoldable pub own_code : Encoding → ℕ → Option ℕ
own_code MacintoshRoman character = if nat_lt character 128 then Some character else None
own_code Macintosh character = if nat_lt character 128 then Some character else None
own_code Unicode character = Some character
own_code Symbol character = Some character
own_code SimplifiedArabic character = Some character
own_code TraditionalArabic character = Some character

-- another number for it
unfoldable pub other_code : Encoding → ℕ → Option ℕ
other_code Symbol character = if nat_lt character 256 then Some (0xF000 + character) else None
other_code SimplifiedArabic character = option_map (λ row. row.1) (find (λ row. row.0 == character) simplified_arabic)
other_code TraditionalArabic character = option_map (λ row. row.1) (find (λ row. row.0 == character) traditional_arabic)
other_code MacintoshRoman character = option_map (λ place. 128 + place) (position (λ c. c == character) macintosh_roman)
other_code Unicode character = None
other_code Macintosh character = None

-- the glyph of a character: that of its own number, and else that of the other one
unfoldable pub glyph_index : List ℕ → Encoding → ℕ → Option ℕ
glyph_index bs encoding character =
    option_or (option_and_then (subtable_glyph bs) (own_code encoding character))
    (option_and_then (subtable_glyph bs) (other_code encoding character))

-- the glyph of a character before a variation selector
abbrev pub glyph_of_variant : Option ℕ → GlyphVariant → Option ℕ
glyph_of_variant default NotFound = None
glyph_of_variant default (Found glyph) = Some glyph.0
glyph_of_variant default UseDefault = default

unfoldable pub glyph_variation_index : List ℕ → Encoding → List ℕ → ℕ → ℕ → Option ℕ
glyph_variation_index bs encoding variations character selector =
    glyph_of_variant (glyph_index bs encoding character) (glyph_variant variations character selector)
