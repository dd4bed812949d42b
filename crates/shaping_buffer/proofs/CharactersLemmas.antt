-- Texts hold characters.
use Rattle.std.proofs.Common.{◌≡◌, ℕ, ◌+◌, ◌%◌, true, List, [], ◌∷◌, ◌++◌, length, IsUtf8, subst, sym}
use Rattle.std.proofs.lemmas.Bool.{and_parts}
use Rattle.std.proofs.lemmas.List.Elements.{All-append, All-nil, All-cons, All-head, All-tail}
use Rattle.std.proofs.lemmas.Str.{scalars-chars}
use Rattle.std.specs.Prelude.{encode_utf8}
use Rattle.std.specs.Char.{IsScalar}
use Rattle.std.specs.Str.{chars, all_scalars}
use Rattle.rb_glyph.specs.declared.info.hb_glyph_info_t.{hb_glyph_info_t}
use Rattle.glyph_sides.specs.TextGlyphs.{character, glyphs_at}
use Rattle.glyph_sides.proofs.CharactersLemmas.{length_pushed}
use Rattle.glyph_lists.specs.Guess.{AreCharacters}
use Rattle.glyph_lists.specs.ClusterNumbers.{reset_clusters}

-- the glyph's id is a character
abbrev Is : hb_glyph_info_t → Type 0
Is g = IsScalar g.glyph_id

characters-glyphs_at : (offset : ℕ) (cs : List ℕ) → all_scalars cs ≡ true → AreCharacters (glyphs_at offset cs)
characters-glyphs_at offset [] s = All-nil Is
characters-glyphs_at offset (c ∷ cs) s =
    let parts = and_parts _ _ s in
    let rest = offset + length (encode_utf8 c) in
    All-cons Is (character c (offset % 4294967296)) (glyphs_at rest cs) parts.0 (characters-glyphs_at rest cs parts.1)

-- a text that is pushed
pub characters_pushed : (l : List hb_glyph_info_t) (text : List ℕ) → IsUtf8 text → AreCharacters l
    → AreCharacters (l ++ glyphs_at 0 (chars text))
characters_pushed l text utf8 all =
    All-append Is l (glyphs_at 0 (chars text)) all (characters-glyphs_at 0 (chars text) (scalars-chars text utf8))

pub ruleset pushes = (length_pushed, characters_pushed)

-- clusters that are numbered anew
pub characters_reset : (first : ℕ) (l : List hb_glyph_info_t) → AreCharacters l → AreCharacters (reset_clusters first l)
characters_reset first [] all = All-nil Is
characters_reset first (g ∷ l) all =
    All-cons Is (record g { cluster = first % 4294967296 }) (reset_clusters (first + 1) l) (All-head Is g l all)
    (characters_reset (first + 1) l (All-tail Is g l all))

pub characters_along : (l new : List hb_glyph_info_t) (text : List ℕ) → IsUtf8 text
    → new ≡ l ++ glyphs_at 0 (chars text) → AreCharacters l → AreCharacters new
characters_along l new text utf8 is all = subst AreCharacters (sym is) (characters_pushed l text utf8 all)
