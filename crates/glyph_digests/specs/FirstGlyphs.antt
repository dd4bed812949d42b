-- The first 256 glyphs of a font, told apart one by one.
use Rattle.std.specs.Prelude.{ℕ, ◌≡◌, ◌/◌, ◌&&◌, ◌||◌, Bool, true, nat_le, slice_index_or}
use Rattle.glyph_digests.specs.Digest.{has_row, may_have}
use Rattle.glyph_digests.specs.declared.first_glyphs.FirstGlyphs.{FirstGlyphs}
use Rattle.glyph_digests.specs.declared.first_glyphs.Summaries.{Summaries}

-- whether a glyph may be in a set: one of the first 256 is where its bit says so, and any other may be
unfoldable pub may_have_first : FirstGlyphs → ℕ → Bool
may_have_first firsts g = nat_le 256 g || has_row (slice_index_or firsts.words (g / 64) 0) g

-- what one set may have, another one may have too
abbrev pub HasMoreFirst : FirstGlyphs → FirstGlyphs → Type 0
HasMoreFirst firsts more = (g : ℕ) → may_have_first firsts g ≡ true → may_have_first more g ≡ true

-- whether a glyph may be in a set by both of its summaries
abbrev pub may_have_both : Summaries → ℕ → Bool
may_have_both summaries g = may_have summaries.digest g && may_have_first summaries.firsts g
