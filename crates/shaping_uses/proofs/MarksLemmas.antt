-- Marks are put before their glyphs, one after the other.
use Rattle.std.proofs.Common.{◌≡◌, ℕ, ◌<◌, List, [], ◌∷◌, ◌++◌, length, map, take, drop, ◌∙◌, arith, append_assoc}
use Rattle.rb_glyph.specs.declared.info.hb_glyph_info_t.{hb_glyph_info_t}
use Rattle.shaping_buffer.specs.Step.{with_id}
use Rattle.shaping_uses.specs.Marks.{with_marks}

-- a glyph and its mark before it were put out
pub append_with_marks : (mark : ℕ) (out input : List hb_glyph_info_t) → 0 < length input
    → ((out ++ map (with_id mark) (take 1 input)) ++ take 1 input) ++ with_marks mark (drop 1 input)
    ≡ out ++ with_marks mark input
append_with_marks mark out [] some = absurd (omega arith)
append_with_marks mark out (g ∷ l) some =
    append_assoc (out ++ with_id mark g ∷ []) (g ∷ []) (with_marks mark l)
    ∙ append_assoc out (with_id mark g ∷ []) (g ∷ with_marks mark l)
