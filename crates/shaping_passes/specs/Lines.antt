-- Where the lines of a text end: each takes what fits its width, and ends at a place where the text may be cut.
use Rattle.std.proofs.Common.{zero, suc}
use Rattle.std.specs.Prelude.{ℕ, ℤ, pos, ◌+◌, ◌-◌, ◌==◌, ◌||◌, ◌+ℤ◌, int_le, Bool, true, List, [], ◌∷◌, take, drop, length}
use Rattle.std.specs.Prelude.{if◌then◌else◌}
use Rattle.rb_glyph.specs.declared.info.hb_glyph_info_t.{hb_glyph_info_t}
use Rattle.rb_glyph.specs.declared.position.GlyphPosition.{GlyphPosition}
use Rattle.shaping_passes.specs.Seams.{may_be_cut}

-- ---- places

-- a line may end where the text may be cut, and where it ends
abbrev pub may_end : List hb_glyph_info_t → ℕ → Bool
may_end l k = k == length l || may_be_cut l k

-- of n places from k on, those at which a line may end
abbrev pub ends_from : List hb_glyph_info_t → ℕ → ℕ → List ℕ
ends_from l k zero = []
ends_from l k (suc n) = if may_end l k then k ∷ ends_from l (k + 1) n else ends_from l (k + 1) n

-- those of the text
abbrev pub all_ends : List hb_glyph_info_t → List ℕ
all_ends l = ends_from l 1 (length l)

-- ---- widths

-- the sum of the advances
abbrev pub advance_of : List GlyphPosition → ℤ
advance_of [] = pos 0
advance_of (p ∷ ps) = p.x_advance +ℤ advance_of ps

-- how wide a line is from one place to another
abbrev pub width_of : List GlyphPosition → ℕ → ℕ → ℤ
width_of ps start end = advance_of (take (end - start) (drop start ps))

-- so wide a line fits the first of the widths; with no width any line does
abbrev pub is_within : ℤ → List ℤ → Bool
is_within width [] = true
is_within width (w ∷ ws) = int_le width w

-- the widths of the lines after the first, the last of them being that of all the others
abbrev pub widths_after : List ℤ → List ℤ
widths_after [] = []
widths_after (w ∷ []) = w ∷ []
widths_after (w ∷ v ∷ ws) = v ∷ ws

-- ---- lines

-- The ends of the lines from a start on, where these places are left at which a line may end. A line that has come to one
-- of them goes on to the next if it fits up to there, and else it ends.
abbrev pub lines_from : List GlyphPosition → List ℤ → ℕ → List ℕ → List ℕ
lines_from ps widths start [] = []
lines_from ps widths start (end ∷ []) = end ∷ []
lines_from ps widths start (end ∷ next ∷ ends) =
    if is_within (width_of ps start next) widths then lines_from ps widths start (next ∷ ends)
    else end ∷ lines_from ps (widths_after widths) end (next ∷ ends)

-- `line_ends`: those of the whole text
abbrev pub line_ends : List hb_glyph_info_t → List GlyphPosition → List ℤ → List ℕ
line_ends l ps widths = lines_from ps widths 0 (all_ends l)
