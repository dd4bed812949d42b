-- The names of a font's glyphs, as text.
use Rattle.std.specs.Prelude.{ℕ, List, Option, Some, None, option_and_then, if◌then◌else◌}
use Rattle.std.specs.Option.{option_or}
use Rattle.std.specs.Str.{is_utf8}
use Rattle.font_tables.specs.GlyphNames.{glyph_name}
use Rattle.font_outlines.specs.Outlines.{cff_name}
use Rattle.font_outlines.specs.declared.outlines.Outlines.{Outlines}

-- the bytes, if they are text
abbrev pub text_of : List ℕ → Option (List ℕ)
text_of bytes = if is_utf8 bytes then Some bytes else None

-- the bytes of a glyph's name: of that in the table `post`, or else of that in the table `CFF `
abbrev pub name_bytes : List ℕ → Outlines → ℕ → Option (List ℕ)
name_bytes post outlines glyph =
    option_or (glyph_name post glyph) (option_and_then (λ cff. cff_name cff glyph) outlines.cff)

-- the name of a glyph, if it is text
abbrev pub name_of : List ℕ → Outlines → ℕ → Option (List ℕ)
name_of post outlines glyph = option_and_then text_of (name_bytes post outlines glyph)
