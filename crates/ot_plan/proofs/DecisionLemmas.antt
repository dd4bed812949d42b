-- What is decided, told of the font and of the shaper of the script.
use Rattle.std.proofs.Common.{◌≡◌, ℕ, Bool, List, subst}
use Rattle.rb_common.specs.declared.direction.Direction.{Direction}
use Rattle.ot_map.specs.declared.shape_plan.KernLayout.{KernLayout}
use Rattle.ot_map.specs.declared.shape_plan.OtShapePlan.{OtShapePlan}
use Rattle.script_shapers.specs.declared.shaper.ScriptShaper.{ScriptShaper}
use Rattle.ot_plan.specs.Decisions.{AreMarksOf, IsPositionedBy}

pub positioned_by : (gpos bytes : List ℕ) (kern table : KernLayout) (direction : Direction) (shaper chosen : ScriptShaper) (shape : OtShapePlan)
    → gpos ≡ bytes → kern ≡ table → shaper ≡ chosen → IsPositionedBy gpos kern direction shaper shape
    → IsPositionedBy bytes table direction chosen shape
positioned_by gpos bytes kern table direction shaper chosen shape lookups read same is =
    subst (λ (b : List ℕ). IsPositionedBy b table direction chosen shape) lookups
    (subst (λ (k : KernLayout). IsPositionedBy gpos k direction chosen shape) read
    (subst (λ (s : ScriptShaper). IsPositionedBy gpos kern direction s shape) same is))

pub marks_of : (kern table : KernLayout) (own script : ScriptShaper) (morx has : Bool) (shape : OtShapePlan)
    → kern ≡ table → own ≡ script → morx ≡ has → AreMarksOf kern own morx shape → AreMarksOf table script has shape
marks_of kern table own script morx has shape read same there is =
    subst (λ (k : KernLayout). AreMarksOf k script has shape) read
    (subst (λ (s : ScriptShaper). AreMarksOf kern s has shape) same
    (subst (λ (m : Bool). AreMarksOf kern own m shape) there is))
