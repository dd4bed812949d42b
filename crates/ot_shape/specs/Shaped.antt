-- What holds of the glyphs to which a text is shaped, whatever the font.
use Rattle.std.specs.Prelude.{◌≡◌, ◌≢◌, ◌≤◌, Any, Bool, List, true, false, length, Result, IfErr, IfOk}
use Rattle.rb_common.specs.declared.direction.Direction.{Direction}
use Rattle.rb_text.specs.declared.feature.Feature.{Feature}
use Rattle.font_face.specs.declared.face.Face.{Face}
use Rattle.ot_plan.specs.Plans.{IsPlanOf, MadePlan}
use Rattle.shaping_buffer.specs.KeepsClusters.{KeepsClusters}
use Rattle.shaping_buffer.specs.Limits.{enter}
use Rattle.shaping_buffer.specs.Properties.{guessed}
use Rattle.shaping_buffer.specs.State.{HasPositions, State}
use Rattle.shaping_passes.specs.Refusals.{IsRefusal}
use Rattle.shaping_verification.specs.declared.shape_error.ShapeError.{ShapeError}
use Rattle.shaping_verification.specs.declared.shape_error.ShapeError.TheVariants.{OtherPlan}
use Rattle.std.specs.declared.alloc.AllocError.{AllocError}
use Rattle.ot_shape.specs.ShapedClusters.{ShapedClusters}

-- they have positions, are no more than the text may have, stand in a line of this direction, and keep the clusters
abbrev pub AreShaped : Direction → State → State → Type 0
AreShaped direction text glyphs = record {
  placed : HasPositions glyphs;
  within : length glyphs.input ≤ (enter text).max_len;
  direction : glyphs.direction ≡ direction;
  clusters : ShapedClusters text glyphs;
}

-- a text is shaped so, or there is an error, but not that of another plan
abbrev pub Shapes : Direction → State → Result State ShapeError → Type 0
Shapes direction text result = record {
  glyphs : IfOk result (AreShaped direction text);
  named : IfErr result (λ e. e ≢ OtherPlan);
}

-- the same by the plan of the text, which is among those that are kept then
abbrev pub ShapesByKept : Face → List Feature → List MadePlan → State → Result State ShapeError → Type 0
ShapesByKept face features kept text result = record {
  shapes : Shapes (guessed text).direction text result;
  planned : IfOk result (λ _. Any (λ plan. IsPlanOf plan face features (guessed text)) kept);
}

-- a step leaves positions on, and keeps the clusters
abbrev pub Stays : State → State → Type 0
Stays old new = record {
  placed : HasPositions new;
  keeps : KeepsClusters old new;
}

-- the same of a step that answers false only where the buffer refused a call
abbrev pub StaysUnlessRefused : Result Bool AllocError → State → State → Type 0
StaysUnlessRefused result old new = record {
  placed : IfOk result (λ done. done ≡ true → HasPositions new);
  refusal : IsRefusal false result new;
  keeps : KeepsClusters old new;
}
