-- Marks that are put before their glyphs.
use Rattle.std.specs.Prelude.{ℕ, List, [], ◌∷◌}
use Rattle.rb_glyph.specs.declared.info.hb_glyph_info_t.{hb_glyph_info_t}
use Rattle.shaping_buffer.specs.Step.{with_id}

-- before each glyph a copy of it under the id of the mark
abbrev pub with_marks : ℕ → List hb_glyph_info_t → List hb_glyph_info_t
with_marks mark [] = []
with_marks mark (g ∷ l) = with_id mark g ∷ g ∷ with_marks mark l
