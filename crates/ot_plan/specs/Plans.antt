-- What a plan is made for, and which texts it is for.
use Rattle.std.specs.Prelude.{◌≡◌, ◌==◌, ◌&&◌, ◌||◌, ℕ, ℤ, List, Option, is_some, map, unwrap_or, if◌then◌else◌, ◌<◌, Some, slice_get}
use Rattle.rb_common.specs.declared.direction.Direction.{Direction}
use Rattle.rb_text.specs.Feature.{last_end}
use Rattle.rb_text.specs.declared.feature.Feature.{Feature}
use Rattle.glyph_lists.specs.Guess.{unknown_script}
use Rattle.shaping_buffer.specs.State.{State}
use Rattle.font_face.specs.declared.face.Face.{Face}
use Rattle.ot_plan.specs.declared.planning.TextPlan.{TextPlan}

-- Texts of this direction, script and language, with these features, at these normalized coordinates of a variable font.
pub record PlannedTexts : Type 0 where
  pub direction : Direction
  pub script : Option ℕ
  pub language : Option (List ℕ)
  pub features : List Feature
  pub coordinates : List ℤ

-- A plan: what it was made for, and what was made.
pub record MadePlan : Type 0 where
  pub texts : PlannedTexts
  pub made : TextPlan

-- what the plan of a text is made for
abbrev pub planned : Face → List Feature → State → PlannedTexts
planned face features text = record {
  direction = text.direction;
  script = text.script;
  language = text.language;
  features = features;
  coordinates = face.variations.coordinates.items;
}

-- What a plan knows of a feature, as HarfBuzz's `hb_shape_plan_key_t`: of its range only whether it is the whole text. The settings
-- of Apple's features have ranges in the plan.
abbrev pub asked : TextPlan → Feature → Feature
asked plan feature =
    if is_some plan.chain_flags || (feature.start == 0) && (feature.end == last_end) then feature
    else record feature { start = 1; end = 2 }

-- The plan is for a text with these features, by a font at its coordinates. A script that is not known counts as the unknown one.
pub record IsFor (plan : MadePlan) (face : Face) (features : List Feature) (text : State) : Type 0 where
  pub direction : plan.texts.direction ≡ text.direction
  pub script : unwrap_or plan.texts.script unknown_script ≡ unwrap_or text.script unknown_script
  pub language : plan.texts.language ≡ text.language
  pub asked_alike : map (asked plan.made) plan.texts.features ≡ map (asked plan.made) features
  pub at : plan.texts.coordinates ≡ face.variations.coordinates.items

-- it is the plan that would be made for the text
pub record IsPlanOf (plan : MadePlan) (face : Face) (features : List Feature) (text : State) : Type 0 where
  pub is_for : IsFor plan face features text
  pub script : plan.texts.script ≡ text.script

-- none of the first so many plans is the plan of the text
abbrev pub NoneIsPlanOf : List MadePlan → ℕ → Face → List Feature → State → Type 0
NoneIsPlanOf plans count face features text =
    (i : ℕ) (plan : MadePlan) → i < count → slice_get plans i ≡ Some plan → ¬ IsPlanOf plan face features text
