-- Sets of glyphs in three words, which may say of more glyphs that they are there.
use Rattle.std.specs.Prelude.{ℕ, ◌≡◌, ◌/◌, ◌%◌, ◌==◌, ◌&&◌, Bool, true, List, All}
use Rattle.std.specs.Int.{bit_at}
use Rattle.rb_glyph.specs.declared.info.hb_glyph_info_t.{hb_glyph_info_t}
use Rattle.glyph_digests.specs.declared.digest.Digest.{Digest}

-- whether a word has the bit of a row; 64 rows are told apart
abbrev pub has_row : ℕ → ℕ → Bool
has_row word row = bit_at word (row % 64) == 1

-- whether a digest may have a glyph: it has the glyph's row in each of three ways to part the glyphs into rows
unfoldable pub may_have : Digest → ℕ → Bool
may_have d g = has_row d.sixteens (g / 16) && has_row d.singles g && has_row d.blocks (g / 128)

-- a digest may have each glyph of a set
abbrev pub HasAll : (ℕ → Type 0) → Digest → Type 0
HasAll set d = (g : ℕ) → set g → may_have d g ≡ true

-- what a digest may have, another one may have too
abbrev pub HasMore : Digest → Digest → Type 0
HasMore d more = HasAll (λ g. may_have d g ≡ true) more

-- a digest may have each glyph of a text
abbrev pub HasGlyphs : Digest → List hb_glyph_info_t → Type 0
HasGlyphs d glyphs = All (λ glyph. may_have d glyph.glyph_id ≡ true) glyphs
