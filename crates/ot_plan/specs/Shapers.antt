-- Which shaper the plan of a text has, and what else it has by that.
use Rattle.std.specs.Prelude.{◌≡◌, ◌≢◌, ◌&&◌, ◌||◌, codes, ℕ, Bool, true, false, List, Option, length, nat_eq, not, is_some, option_map, unwrap_or, if◌then◌else◌}
use Rattle.rb_common.specs.Direction.{is_horizontal}
use Rattle.rb_common.specs.Tag.{tag_of}
use Rattle.rb_common.specs.declared.direction.Direction.{Direction}
use Rattle.script_shapers.specs.Shapers.{shaper_of, shaper_with_morx}
use Rattle.script_shapers.specs.declared.shaper.ScriptShaper.{ScriptShaper}
use Rattle.script_shapers.specs.declared.shaper.ScriptShaper.TheVariants.{Arabic, Default}
use Rattle.script_shapers.specs.declared.syllables.SyllablePlan.{SyllablePlan}
use Rattle.script_shapers.specs.declared.syllables.SyllablePlan.TheVariants as plans
use Rattle.ot_map.specs.Choice.{script_of}
use Rattle.ot_map.specs.Plan.{IsPlan}
use Rattle.ot_map.specs.Tables.{list_of}
use Rattle.script_shapers.specs.Syllables.{is_plan_of}
use Rattle.font_face.specs.declared.face.Face.{Face}
use Rattle.ot_plan.specs.Decisions.{AreMarksOf, HasMasks, IsMask, IsPositionedBy, kern_of}
use Rattle.ot_plan.specs.Forms.{AreFormsOf}
use Rattle.ot_plan.specs.declared.planning.TextPlan.{TextPlan}

-- the shaper of a script in a direction, by the tag under which the font has it; the one in its place where Apple's table substitutes
abbrev pub shaper_in : Bool → Option ℕ → Direction → ℕ → ScriptShaper
shaper_in morx script direction tag =
    let own = unwrap_or (option_map (λ s. shaper_of s direction tag) script) Default in
    if morx then shaper_with_morx own else own

-- whether the glyphs of syllables are put in another order between the stages
abbrev pub orders_syllables : SyllablePlan → Bool
orders_syllables plans.None = false
orders_syllables (plans.Indic plan) = true
orders_syllables (plans.Khmer plan) = true
orders_syllables plans.Myanmar = true
orders_syllables (plans.Universal plan) = true

-- Apple's table `morx` substitutes in horizontal lines, and where the font has no `GSUB`
abbrev pub has_morx : Face → Direction → Bool
has_morx face direction =
    not (nat_eq (length face.lookups.morx.chains.items) 0)
    && (is_horizontal direction || nat_eq (length face.layout.gsub.now) 0)

-- the shaper of a script by the tags under which a font may have it, of which `GSUB` has one, and a default one where it has none
abbrev pub shaper_by : Bool → Face → Direction → Option ℕ → List ℕ → ScriptShaper
shaper_by morx face direction script scripts =
    shaper_in morx script direction (script_of (list_of face.layout.gsub.now 4) scripts).0

-- It was made for texts of this direction and script by this font. These are the script's OpenType tags.
pub record IsMadeOf (face : Face) (direction : Direction) (script : Option ℕ) (scripts : List ℕ) (plan : TextPlan) : Type 0 where
  -- its shaper is the script's, by the tag under which `GSUB` has the script
  pub shaper : plan.script.shaper ≡ shaper_by (has_morx face direction) face direction script scripts
  -- it does with syllables what that shaper does
  pub syllables : is_plan_of plan.script.shaper plan.syllables ≡ true
  -- Apple's table `morx` substitutes in place of its lookups
  pub morx : is_some plan.chain_flags ≡ has_morx face direction
  -- its features have bits of their own
  pub layout : IsPlan plan.shape.layout

-- What is decided of texts of this direction and script by this font. These are the script's OpenType tags.
pub record IsDecided (face : Face) (direction : Direction) (script : Option ℕ) (scripts : List ℕ) (plan : TextPlan) : Type 0 where
  -- the features that are asked of
  pub masks : HasMasks direction plan.shape
  -- the feature by which Apple's table `trak` can be turned off
  pub tracking : IsMask plan.shape.layout (tag_of (codes "trak")) plan.trak_mask
  -- who positions glyphs
  pub positions :
      IsPositionedBy face.layout.gpos.now (kern_of face.layout.kern.now) direction plan.script.shaper plan.shape
  -- what becomes of marks: the script's own shaper says it, also where `morx` substitutes
  pub marks :
      AreMarksOf (kern_of face.layout.kern.now) (shaper_by false face direction script scripts) (has_morx face direction) plan.shape
  -- lookups that join letters are made where the plan of the script says so, and that is where the shaper is Arabic's
  pub joined : is_some plan.fallback ≡ plan.script.does_fallback
  pub joining : plan.script.shaper ≢ Arabic → plan.script.does_fallback ≡ false
  -- where the lookups stand that a shaper of syllables asks of
  pub forms : AreFormsOf plan.shape.layout plan.forms
