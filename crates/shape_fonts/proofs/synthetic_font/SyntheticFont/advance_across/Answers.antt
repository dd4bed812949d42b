use Rattle.std.proofs.Common.{ℕ, rules, subst}
use Rattle.font_functions.specs.OwnFunctions.{IsOwnAdvance}
use Rattle.shape_fonts.proofs.synthetic_font.SyntheticFont.advance_across.Goals as goal

pub returns : goal.returns
returns c =
    let P : ℕ → Type 0 = λ glyph. IsOwnAdvance c.args.self.now.own.face.now glyph c.glyph_h_advance-plain.result in
    record {
      plain = c.glyph_h_advance-plain.result;
      own = subst P c.shown-shown.ensures c.glyph_h_advance-plain.ensures;
      is = search rules;
    }
