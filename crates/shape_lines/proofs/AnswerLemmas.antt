-- What is printed of glyphs.
use Rattle.std.proofs.Common.{ℕ, zero, suc, ◌≡◌, ◌<◌, ◌==◌, List, [], length, false}
use Rattle.std.proofs.Common.{refl, sym, ap, arith, ◌∙◌, ◌∷◌, ◌++◌, Some, unwrap_or}
use Rattle.std.proofs.lemmas.Bool.Decides.{nat_tests}
use Rattle.std.specs.List.{zip}
use Rattle.rb_glyph.specs.declared.flag_sets.SerializeFlags.{SerializeFlags}
use Rattle.rb_glyph.specs.declared.info.hb_glyph_info_t.{hb_glyph_info_t}
use Rattle.rb_glyph.specs.declared.position.GlyphPosition.{GlyphPosition}
use Rattle.glyph_text.specs.Text.{Font}
use Rattle.line_formats.specs.Json.{glyphs_json}
use Rattle.shaping_buffer.specs.State.{State}
use Rattle.shape_options.specs.declared.output.Output.{Output}
use Rattle.shape_options.specs.declared.output.OutputFormat.TheVariants.{Json}
use Rattle.shape_lines.specs.Lines.{glyphs_in, glyphs_line}

pub line-none : (font : Font) (o : Output) (s : State) → length s.input ≡ 0 → [] ≡ glyphs_line font o s
line-none font o s none = sym (rw none refl)

some_from : (n : ℕ) → (n ≡ 0 → ⊥) → 0 < n
some_from zero h = absurd (h refl)
some_from (suc n) h = omega arith

pub line-some : (font : Font) (o : Output) (s : State) (line : List ℕ) → (length s.input ≡ 0 → ⊥)
    → line ≡ glyphs_in font o.format o.flags s → line ≡ glyphs_line font o s
line-some font o s line h e =
    let some : 0 < length s.input = some_from (length s.input) h in
    let not_empty : (length s.input == 0) ≡ false = grind (arith, nat_tests) in e ∙ sym (rw not_empty refl)

-- the objects of the glyphs and positions of a buffer
pub append-objects : (font : Font) (flags : SerializeFlags) (s : State) (infos : List hb_glyph_info_t)
    (positions : List GlyphPosition) (objects : List ℕ) → infos ≡ s.input → Some positions ≡ s.positions
    → objects ≡ glyphs_json font flags (zip infos positions) → 91 ∷ objects ++ 93 ∷ [] ≡ glyphs_in font Json flags s
append-objects font flags s infos positions objects infos_is positions_is e =
    ap (λ t. 91 ∷ t ++ 93 ∷ [])
    (e ∙ ap (λ is. glyphs_json font flags (zip is positions)) infos_is
    ∙ ap (λ ps. glyphs_json font flags (zip s.input (unwrap_or ps []))) positions_is)
