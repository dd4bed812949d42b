use Rattle.std.proofs.Common.{◌≡◌, true, false, refl, sym, subst, ◌∙◌}
use Rattle.std.proofs.lemmas.Bool.{false≢true}
use Rattle.std.specs.Prelude.{Option}
use Rattle.rb_common.specs.declared.glyph_id.GlyphId.{GlyphId}
use Rattle.ot_positions.specs.Ending.{StandsForThem, has_ignorables}
use Rattle.ot_positions.proofs.ending.hide_ignorables.Goals as goal

pub returns-then-has_ignorables-clause-hides : goal.returns-then-has_ignorables-clause-hides
returns-then-has_ignorables-clause-hides g c =
    let there : has_ignorables c.args.buffer.now ≡ true = sym c.has_ignorables.ensures ∙ c.if-has_ignorables.true in
    let glyph = c.glyph_for_ignorables-glyph.result in
    let stands =
    subst (λ (invisible : Option GlyphId). StandsForThem (g.F.FontFunctions.has c.args.font.now)
    (g.F.FontFunctions.may_have c.args.font.now) invisible glyph) c.invisible_of.ensures c.glyph_for_ignorables-glyph.ensures in
    record {
      none = λ none. absurd (false≢true (sym none ∙ there));
      some = λ _. (glyph, (stands, c.hide_by.ensures.is));
    }

pub returns-else-has_ignorables-clause-hides : goal.returns-else-has_ignorables-clause-hides
returns-else-has_ignorables-clause-hides g c =
    let none : has_ignorables c.args.buffer.now ≡ false = sym c.has_ignorables.ensures ∙ c.if-has_ignorables.false in
    record {
      none = λ _. refl;
      some = λ there. absurd (false≢true (sym none ∙ there));
    }
