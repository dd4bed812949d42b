use Rattle.std.proofs.Common.{ℕ, sym, subst, ◌∙◌}
use Rattle.std.proofs.lemmas.Bool.{false≢true}
use Rattle.ot_positions.specs.FontPositions.{IsAdvanced}
use Rattle.ot_positions.proofs.AdvanceLemmas.{placed_by, placed_space}
use Rattle.ot_positions.proofs.positions.position_of.Goals as goal

pub returns-then-not-is_space-clause-position : goal.returns-then-not-is_space-clause-position
returns-then-not-is_space-clause-position g c = λ horizontal.
    let may = g.F.FontFunctions.may_advance c.args.positions.now.font.now in
    placed_by may c.args.may_be_space c.args.info.now c.in_ok-position.position
    (subst (λ (n : ℕ). IsAdvanced may n c.in_ok-position.position) c.glyph_of.ensures (c.in_ok-position.ensures.position horizontal))

pub returns-then-positions-clause-position : goal.returns-then-positions-clause-position
returns-then-positions-clause-position g c = λ horizontal.
    let may = g.F.FontFunctions.may_advance c.args.positions.now.font.now in
    placed_space may c.args.may_be_space c.args.info.now c.in_ok-position.position _
    (sym c.is_fallback_space-is_space.ensures ∙ c.if-not-is_space.false)
    (subst (λ (n : ℕ). IsAdvanced may n c.in_ok-position.position) c.glyph_of.ensures (c.in_ok-position.ensures.position horizontal))

pub returns-clause-position : goal.returns-clause-position
returns-clause-position g c = λ horizontal.
    absurd (false≢true (sym c.if-positions.false ∙ c.in_ok-position.ensures.direction ∙ horizontal))
