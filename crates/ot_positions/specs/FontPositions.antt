-- The positions that a font gives the glyphs of a line (HarfBuzz, `hb_ot_position_default`).
use Rattle.std.specs.Prelude.{ℕ, ℤ, Bool, true, false, List, [], ◌∷◌, Option, IfSome, ⊤, ◌≡◌, ◌==◌, ◌&&◌, not, bit_and, nat_lt, if◌then◌else◌}
use Rattle.std.specs.List.{All}
use Rattle.rb_glyph.specs.Fields.{field}
use Rattle.rb_glyph.specs.declared.flag_sets.TheConstants.GlyphPropsFlags.{LIGATED}
use Rattle.rb_glyph.specs.declared.info.hb_glyph_info_t.{hb_glyph_info_t}
use Rattle.rb_glyph.specs.declared.position.GlyphPosition.{GlyphPosition}
use Rattle.rb_glyph.specs.declared.scratch.TheConstants.{HB_BUFFER_SCRATCH_FLAG_HAS_SPACE_FALLBACK}
use Rattle.script_items.specs.Spaces.{is_space}
use Rattle.shaping_buffer.specs.Positions.{zero_position}
use Rattle.shaping_buffer.specs.State.{State}
use Rattle.ot_positions.specs.declared.kept_positions.KeptPosition.{KeptPosition}

-- ---- horizontal lines

-- the glyph of an item; glyph 0, where its number has more than 16 bits
abbrev pub glyph_of : hb_glyph_info_t → ℕ
glyph_of g = if nat_lt g.glyph_id 65536 then g.glyph_id else 0

-- a glyph's advance is one that the font's functions may give it, and it stands at its place
pub record IsAdvanced (may_advance : ℕ → ℤ → Type 0) (glyph : ℕ) (p : GlyphPosition) : Type 0 where
  pub advance : may_advance glyph p.x_advance
  pub others : p ≡ record zero_position { x_advance = p.x_advance }

-- some characters are spaces that the font has no glyph for
abbrev pub has_fallback_spaces : State → Bool
has_fallback_spaces s = not (bit_and s.scratch_flags HB_BUFFER_SCRATCH_FLAG_HAS_SPACE_FALLBACK == 0)

-- a lookup made the glyph from several
abbrev pub has_ligated : hb_glyph_info_t → Bool
has_ligated g = not (bit_and (field g.var1 0 16) LIGATED.0 == 0)

abbrev pub is_lone_space : hb_glyph_info_t → Bool
is_lone_space g = is_space g && not (has_ligated g)

-- Each glyph of a line has its advance, but for spaces where the font lacks some: their kinds decide.
pub record IsPlaced (may_advance : ℕ → ℤ → Type 0) (lacks_spaces : Bool) (g : hb_glyph_info_t) (p : GlyphPosition) : Type 0 where
  pub advance : (lacks_spaces && is_lone_space g) ≡ false → may_advance (glyph_of g) p.x_advance
  pub others : p ≡ record zero_position { x_advance = p.x_advance }

unfoldable pub AreAdvanced : (ℕ → ℤ → Type 0) → Bool → List hb_glyph_info_t → List GlyphPosition → Type 0
AreAdvanced may_advance lacks_spaces [] [] = ⊤
AreAdvanced may_advance lacks_spaces [] (p ∷ ps) = ⊥
AreAdvanced may_advance lacks_spaces (g ∷ gs) [] = ⊥
AreAdvanced may_advance lacks_spaces (g ∷ gs) (p ∷ ps) =
    IsPlaced may_advance lacks_spaces g p × AreAdvanced may_advance lacks_spaces gs ps

-- ---- positions that are kept

-- in a horizontal line a position is one that the font's functions may give
abbrev pub IsTheFonts : (ℕ → ℤ → Type 0) → Bool → ℕ → GlyphPosition → Type 0
IsTheFonts may_advance is_horizontal glyph position = is_horizontal ≡ true → IsAdvanced may_advance glyph position

-- each position that is kept is that of its glyph
abbrev pub IsKept : (ℕ → ℤ → Type 0) → Bool → Option KeptPosition → Type 0
IsKept may_advance is_horizontal row = IfSome row (λ k. IsTheFonts may_advance is_horizontal k.glyph.0 k.position)

abbrev pub AreTheFonts : (ℕ → ℤ → Type 0) → Bool → List (Option KeptPosition) → Type 0
AreTheFonts may_advance is_horizontal kept = All (IsKept may_advance is_horizontal) kept
