-- What is told of changes: whoever is told of none knows that the glyphs are the same.
use Rattle.std.specs.Prelude.{◌≡◌, ℕ, Bool, false, List, map}
use Rattle.rb_glyph.specs.declared.info.hb_glyph_info_t.{hb_glyph_info_t}
use Rattle.shaping_buffer.specs.State.{State}
use Rattle.shaping_buffer.specs.ClusterStep.{both}

-- the numbers of glyphs in the font
abbrev pub numbers_of : List hb_glyph_info_t → List ℕ
numbers_of l = map (λ g. g.glyph_id) l

-- those of both sides
abbrev pub glyph_numbers : State → List ℕ
glyph_numbers s = numbers_of (both s)

-- Where no change is told in the end, none was told before, and the glyphs have the same numbers.
pub record TellsChanges (old : State) (told : Bool) (new : State) (tells : Bool) : Type 0 where
  pub before : tells ≡ false → told ≡ false
  pub same : tells ≡ false → glyph_numbers new ≡ glyph_numbers old
