use Rattle.std.proofs.Common.{◌∙◌}
use Rattle.ot_shape.proofs.TurnLemmas.{shapes_guessed}
use Rattle.ot_shape.proofs.with_plans.shape_with_plan_watched.Goals as goal

pub returns-clause-shapes : goal.returns-clause-shapes
returns-clause-shapes g c =
    (shapes_guessed c.args.text c.into_buffer-buffer.result c.shape_by_plan.result
    (c.into_buffer-buffer.ensures.is ∙ c.guess_segment_properties.ensures) c.shape_by_plan.ensures).glyphs
