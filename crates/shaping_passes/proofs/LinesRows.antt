-- Worked rows of lines: three glyphs, each 100 wide.
use Rattle.std.proofs.Common.{◌≡◌, ℕ, List, [], ◌∷◌, pos, refl}
use Rattle.rb_glyph.specs.declared.info.hb_glyph_info_t.{hb_glyph_info_t}
use Rattle.rb_glyph.specs.declared.position.GlyphPosition.{GlyphPosition}
use Rattle.glyph_lists.specs.Clusters.{zero_glyph}
use Rattle.shaping_buffer.specs.Positions.{zero_position}
use Rattle.shaping_passes.specs.Lines.{line_ends}

glyph : ℕ → ℕ → hb_glyph_info_t
glyph cluster mask = record zero_glyph { cluster = cluster; mask = mask }

wide : List GlyphPosition
wide =
    let p = record zero_position { x_advance = pos 100 } in
    p ∷ p ∷ p ∷ []

two_fit : line_ends (glyph 0 0 ∷ glyph 1 0 ∷ glyph 2 0 ∷ []) wide (pos 200 ∷ []) ≡ 2 ∷ 3 ∷ []
unfolding glyph wide
two_fit = refl

-- it is unsafe to break before the third
third_is_unsafe : line_ends (glyph 0 0 ∷ glyph 1 0 ∷ glyph 2 3 ∷ []) wide (pos 200 ∷ []) ≡ 1 ∷ 3 ∷ []
unfolding glyph wide
third_is_unsafe = refl

-- the second and the third are one cluster, which is wider than the second line
one_cluster : line_ends (glyph 0 0 ∷ glyph 1 0 ∷ glyph 1 0 ∷ []) wide (pos 150 ∷ []) ≡ 1 ∷ 3 ∷ []
unfolding glyph wide
one_cluster = refl
