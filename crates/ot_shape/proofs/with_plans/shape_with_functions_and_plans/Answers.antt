use Rattle.std.proofs.Common.{◌∙◌, subst}
use Rattle.std.specs.Prelude.{Any}
use Rattle.shaping_buffer.specs.State.{State}
use Rattle.ot_plan.specs.Plans.{IsPlanOf}
use Rattle.ot_shape.proofs.KeptPlanLemmas.{of_all, any_there}
use Rattle.ot_shape.proofs.TurnLemmas.{shapes_guessed}
use Rattle.ot_shape.proofs.with_plans.shape_with_functions_and_plans.Goals as goal

pub returns-in-Some : goal.returns-in-Some
returns-in-Some g c =
    let face = c.args.face.now in
    let features = c.args.features.now in
    let kept = c.find.new.self in
    let same = c.into_buffer-buffer.ensures.is ∙ c.guess_segment_properties.ensures in
    record {
      shapes = shapes_guessed c.args.text c.into_buffer-buffer.result c.shape_by_plan.result same c.shape_by_plan.ensures;
      planned = of_all c.shape_by_plan.result
          (subst (λ (text : State). Any (λ plan. IsPlanOf plan face features text) kept) same
          (any_there (λ plan. IsPlanOf plan face features c.into_buffer-buffer.result) kept c.in_ok-place.place c.in_ok-place.ensures));
    }
