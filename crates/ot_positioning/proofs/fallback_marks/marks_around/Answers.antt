use Rattle.std.proofs.Common.{ℕ, ap, subst, ◌∙◌}
use Rattle.ot_layout.specs.LigatureParts.{ligature_id}
use Rattle.ot_positioning.specs.MarkPlacing.{IsBase, no_marks}
use Rattle.ot_positioning.proofs.fallback_marks.marks_around.Goals as goal

pub returns : goal.returns
returns g c =
    let base = c.base_of-base.result in
    let bounds = c.in-Some-2.bounds in
    let p = c.args.position.now in
    record {
      bounds = bounds;
      base = base;
      stands = subst (λ (n : ℕ). IsBase (g.F.FontFunctions.may_advance c.args.font.now n) bounds p base) c.in-Some.ensures c.base_of-base.ensures;
      is = c.new.ensures ∙ ap (λ (n : ℕ). no_marks c.args.line base p (n, c.component_count.result)) c.ligature_id.ensures
          ∙ ap (λ (n : ℕ). no_marks c.args.line base p (ligature_id c.args.info.now, n)) c.component_count.ensures;
    }
