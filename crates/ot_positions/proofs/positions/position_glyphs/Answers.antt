use Rattle.std.proofs.Common.{Bool, List, subst, ap, ◌∙◌}
use Rattle.std.specs.Prelude.{IfOk, IfSome}
use Rattle.rb_glyph.specs.declared.info.hb_glyph_info_t.{hb_glyph_info_t}
use Rattle.shaping_buffer.specs.State.{State}
use Rattle.ot_positions.specs.FontPositions.{AreAdvanced, has_fallback_spaces}
use Rattle.ot_positions.proofs.positions.position_glyphs.Goals as goal

pub returns-clause-advances : goal.returns-clause-advances
returns-clause-advances g c = λ horizontal.
    let r = c.place_glyphs.result in
    let placed = c.place_glyphs.new.buffer.positions in
    let lacks = has_fallback_spaces c.args.buffer.now in
    subst (λ f. IfOk r (λ _. IfSome placed (AreAdvanced (g.F.FontFunctions.may_advance f) lacks c.args.buffer.now.input)))
    c.new-positions.ensures.font
    (subst (λ (gs : List hb_glyph_info_t). IfOk r (λ _. IfSome placed
    (AreAdvanced (g.F.FontFunctions.may_advance c.new-positions.result.font.now) lacks gs))) (ap (λ (s : State). s.input) c.clear_positions.ensures.is)
    (subst (λ (b : Bool). IfOk r (λ _. IfSome placed
    (AreAdvanced (g.F.FontFunctions.may_advance c.new-positions.result.font.now) b c.clear_positions.new.self.input)))
    c.has_fallback_spaces-has_spaces.ensures
    (c.place_glyphs.ensures.advances (c.new-positions.ensures.direction ∙ c.is_horizontal_line-is_horizontal.ensures ∙ horizontal))))
