-- What a font's own tables answer.
use Rattle.std.specs.Prelude.{ℕ, ℤ, Bool, [], IsSome, Option, is_some, ◌≡◌}
use Rattle.font_cmap.specs.Codes.{glyph_index}
use Rattle.font_face.specs.declared.face.Face.{Face}
use Rattle.font_face.specs.Measures.{hor_advance}

-- whether `cmap` has a glyph for a character
abbrev pub has_glyph : Face → ℕ → Bool
has_glyph face character = is_some (glyph_index face.characters.subtable.now face.characters.encoding character)

-- and the glyph of a character is the one that `cmap` has for it
abbrev pub IsOwnGlyph : Face → ℕ → Option ℕ → Type 0
IsOwnGlyph face character glyph = glyph ≡ glyph_index face.characters.subtable.now face.characters.encoding character

-- an advance in horizontal lines is the one that the tables `hmtx` and `HVAR` define
pub record IsOwnAdvance (face : Face) (glyph : ℕ) (advance : ℤ) : Type 0 where
  pub plain : face.variations.coordinates.items ≡ [] → advance ≡ hor_advance face glyph
  pub varied : IsSome face.variations.horizontal → advance ≡ hor_advance face glyph
