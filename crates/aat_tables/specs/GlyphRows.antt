-- Rows of glyphs, from the byte 12 of a table on: each has a last glyph at its start, and a first glyph so many bytes behind it.
use Rattle.std.specs.Prelude.{◌≡◌, ◌<◌, ◌+◌, ◌*◌, ℕ, List, Option, true}
use Rattle.font_tables.specs.Bytes.{number_16}
use Rattle.font_tables.specs.Rows.{Rises, AreThere, is_within, is_at_most}

abbrev pub last_of : List ℕ → ℕ → ℕ → Option ℕ
last_of table size row = number_16 table (12 + size * row)

abbrev pub first_of : List ℕ → ℕ → ℕ → ℕ → Option ℕ
first_of table size skip row = number_16 table (12 + skip + size * row)

-- the row holds the glyph
pub record Holds (table : List ℕ) (size skip glyph row : ℕ) : Type 0 where
  pub first : is_within (first_of table size skip row) glyph ≡ true
  pub last : is_at_most glyph (last_of table size row) ≡ true

-- so many rows lie in the table, and their first and last glyphs rise
pub record AreSorted (table : List ℕ) (size skip count : ℕ) : Type 0 where
  pub lasts : Rises (last_of table size) count
  pub firsts : Rises (first_of table size skip) count
  pub lasts_are_there : AreThere (last_of table size) count
  pub firsts_are_there : AreThere (first_of table size skip) count

-- none of so many rows holds the glyph
abbrev pub IsNowhere : List ℕ → ℕ → ℕ → ℕ → ℕ → Type 0
IsNowhere table size skip count glyph = (row : ℕ) → row < count → Holds table size skip glyph row → ⊥
