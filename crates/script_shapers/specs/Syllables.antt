-- Which plan of syllables a shaper has.
use Rattle.std.specs.Prelude.{◌≡◌, ⊤, Bool, true, false}
use Rattle.ot_map.specs.declared.plan.LayoutPlan.{LayoutPlan}
use Rattle.script_universal.specs.Masks.{AreFormMasks, no_forms}
use Rattle.script_shapers.specs.declared.shaper.ScriptShaper.{ScriptShaper}
use Rattle.script_shapers.specs.declared.shaper.ScriptShaper.TheVariants as shaper
use Rattle.script_shapers.specs.declared.syllables.SyllablePlan.{SyllablePlan}
use Rattle.script_shapers.specs.declared.syllables.SyllablePlan.TheVariants as plan

-- whether a plan is one of this shaper: of syllables as it finds them, and of none where it finds none
abbrev pub is_plan_of : ScriptShaper → SyllablePlan → Bool
is_plan_of shaper.Indic (plan.Indic indic) = true
is_plan_of shaper.Khmer (plan.Khmer khmer) = true
is_plan_of shaper.Myanmar plan.Myanmar = true
is_plan_of shaper.Universal (plan.Universal universal) = true
is_plan_of shaper.UniversalJoining (plan.Universal universal) = true
is_plan_of shaper.Default plan.None = true
is_plan_of shaper.Arabic plan.None = true
is_plan_of shaper.Hebrew plan.None = true
is_plan_of shaper.Hangul plan.None = true
is_plan_of shaper.Thai plan.None = true
is_plan_of shaper.Zawgyi plan.None = true
is_plan_of shaper.Plain plan.None = true
is_plan_of _ _ = false

-- A plan of the universal shaper has the masks of the forms of syllables, but not where letters join by themselves: those have forms
-- of their own.
abbrev pub HasForms : LayoutPlan → ScriptShaper → SyllablePlan → Type 0
HasForms layout shaper.Universal (plan.Universal universal) = AreFormMasks layout universal.forms
HasForms layout shaper.UniversalJoining (plan.Universal universal) = universal.forms ≡ no_forms
HasForms _ _ _ = ⊤
