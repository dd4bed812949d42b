-- Characters that scripts in syllables do not compose.
use Rattle.std.specs.Prelude.{ℕ, Bool}
use Rattle.rb_glyph.specs.Categories.{category_of_char}
use Rattle.rb_glyph.specs.Category.{is_mark_category}

-- a mark
abbrev pub is_mark : ℕ → Bool
is_mark c = is_mark_category (category_of_char c)
