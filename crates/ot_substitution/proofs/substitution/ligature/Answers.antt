use Rattle.std.proofs.Common.{◌∙◌, sym, arith}
use Rattle.ot_contexts.proofs.MatchLemmas.{ligature_of-match, ligature_of-single}
use Rattle.ot_substitution.proofs.substitution.ligature.Goals as goal

pub returns-then-count-eq1-clause-exact : goal.returns-then-count-eq1-clause-exact
returns-then-count-eq1-clause-exact c some =
    let glyph = sym c.u16_at.ensures ∙ c.in_ok-glyph.was in
    let count = sym c.u16_at-2.ensures ∙ c.in_ok-count.was in
    sym (ligature_of-single _ _ _ _ glyph count c.if-count-eq1.true)

pub returns-in-Ok-clause-exact : goal.returns-in-Ok-clause-exact
returns-in-Ok-clause-exact c some =
    let glyph = sym c.u16_at.ensures ∙ c.in_ok-glyph.was in
    let count = sym c.u16_at-2.ensures ∙ c.in_ok-count.was in
    sym (ligature_of-match _ _ _ _ _ _ glyph count (omega arith) (rw c.tail.ensures at c.in-Ok.ensures.fits)
    (rw c.tail.ensures at c.in-Ok.ensures.all))
