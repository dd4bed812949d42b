-- What the plan of a text decides of fractions, kerning and marks, by the features that it has, the tables of the font and the shaper of
-- the script (HarfBuzz, `hb_ot_shape_planner_t::compile`).
use Rattle.std.specs.Prelude.{◌≡◌, ◌&&◌, ◌||◌, ◌==◌, ℕ, Bool, true, false, List, Option, Some, None, codes, length, nat_eq, not, is_some, if◌then◌else◌}
use Rattle.rb_common.specs.Direction.{is_horizontal}
use Rattle.rb_common.specs.Tag.{tag_of}
use Rattle.rb_common.specs.declared.direction.Direction.{Direction}
use Rattle.ot_gpos_tables.specs.KernTable.{first_subtable, is_apple, is_crossing, is_machine, some_subtable, subtable_count}
use Rattle.ot_map.specs.Masks.{mask_of, value_in}
use Rattle.ot_map.specs.Plan.{IsReadOf}
use Rattle.ot_map.specs.declared.plan.LayoutPlan.{LayoutPlan}
use Rattle.ot_map.specs.declared.shape_plan.KernLayout.{KernLayout}
use Rattle.ot_map.specs.declared.shape_plan.OtShapePlan.{OtShapePlan}
use Rattle.script_shapers.specs.Shapers.{has_fallback, wanted_script, width_of}
use Rattle.script_shapers.specs.declared.shaper.ScriptShaper.{ScriptShaper}
use Rattle.script_shapers.specs.declared.shaper.ZeroWidthMarks.{ZeroWidthMarks}
use Rattle.script_shapers.specs.declared.shaper.ZeroWidthMarks.TheVariants as width

-- ---- features

-- the bit of the value 1 of a feature (`get_1_mask`), and all bits of its value (`get_mask`); 0 where the plan does not have it
abbrev pub IsOneMask : LayoutPlan → ℕ → ℕ → Type 0
IsOneMask layout tag mask = IsReadOf layout.features.items tag (λ f. value_in f.bits.shift f.bits.count 1) 0 mask

abbrev pub IsMask : LayoutPlan → ℕ → ℕ → Type 0
IsMask layout tag mask = IsReadOf layout.features.items tag (λ f. mask_of f.bits.shift f.bits.count) 0 mask

abbrev pub has_bits : ℕ → Bool
has_bits mask = not (nat_eq mask 0)

-- whether the plan has a feature
abbrev pub IsThere : LayoutPlan → ℕ → Bool → Type 0
IsThere layout tag there = (mask : ℕ) × (IsOneMask layout tag mask × (there ≡ has_bits mask))

-- the feature of kerning, which is another one in vertical lines
abbrev pub kern_tag : Direction → ℕ
kern_tag direction = if is_horizontal direction then tag_of (codes "kern") else tag_of (codes "vkrn")

-- the features that are asked of while a text is shaped
pub record HasMasks (direction : Direction) (shape : OtShapePlan) : Type 0 where
  pub fraction : IsOneMask shape.layout (tag_of (codes "frac")) shape.frac_mask
  pub numerator : IsOneMask shape.layout (tag_of (codes "numr")) shape.numr_mask
  pub denominator : IsOneMask shape.layout (tag_of (codes "dnom")) shape.dnom_mask
  -- the font makes fractions of themselves, or of their parts
  pub fractions : shape.has_frac ≡ has_bits shape.frac_mask || has_bits shape.numr_mask && has_bits shape.dnom_mask
  pub mirrored : IsOneMask shape.layout (tag_of (codes "rtlm")) shape.rtlm_mask
  pub vertical : IsThere shape.layout (tag_of (codes "vert")) shape.has_vert
  pub kerning : IsMask shape.layout (kern_tag direction) shape.kern_mask
  pub requested : shape.requested_kerning ≡ has_bits shape.kern_mask

-- ---- positions

-- whether a font has the table `kern` with subtables (`hb_ot_layout_has_kerning`), one that moves glyphs across the line
-- (`hb_ot_layout_has_cross_kerning`), and one that is a state machine (`hb_ot_layout_has_machine_kerning`)
abbrev pub has_kerning : List ℕ → Bool
has_kerning kern = has_bits (subtable_count kern)

abbrev pub some_in : (Bool → List ℕ → Bool) → List ℕ → Bool
some_in test kern = some_subtable test (subtable_count kern) (is_apple kern) kern (first_subtable (is_apple kern))

abbrev pub kern_of : List ℕ → KernLayout
kern_of kern = record {
  is_there = has_kerning kern;
  is_cross_stream = some_in is_crossing kern;
  has_machine = some_in is_machine kern;
}

-- whether a script is the one that `GPOS` has to have for a shaper
abbrev pub is_wanted : Option ℕ → ℕ → Bool
is_wanted None script = true
is_wanted (Some wanted) script = wanted == script

-- Who positions glyphs, of a font with this table `GPOS` and this kerning: the lookups of `GPOS`, the table `kern` where these have no
-- feature of kerning, and a fallback where neither does.
pub record IsPositionedBy (gpos : List ℕ) (kern : KernLayout) (direction : Direction) (shaper : ScriptShaper) (shape : OtShapePlan) : Type 0 where
  pub by_lookups : shape.apply_gpos
      ≡ is_wanted (wanted_script shaper) shape.layout.gpos_script.0 && not (nat_eq (length gpos) 0)
  pub by_table : IsReadOf shape.layout.features.items (kern_tag direction)
      (λ f. kern.is_there && not (is_some f.gpos && shape.apply_gpos)) kern.is_there shape.apply_kern
  pub by_fallback : shape.apply_fallback_kern ≡ not shape.apply_gpos && not shape.apply_kern

-- ---- marks

-- whether marks lose their width, before or after they are positioned
abbrev pub loses_width : ZeroWidthMarks → Bool
loses_width width.Never = false
loses_width width.Early = true
loses_width width.Late = true

-- no lookup and no subtable places marks
abbrev pub are_unplaced : KernLayout → OtShapePlan → Bool
are_unplaced kern shape = not shape.apply_gpos && not (shape.apply_kern && kern.is_cross_stream)

-- What becomes of marks, by the shaper of the script. That Apple's table `morx` substitutes, and another shaper is in its place, changes
-- one thing: marks are not moved back by the width that they lose.
pub record AreMarksOf (kern : KernLayout) (own : ScriptShaper) (morx : Bool) (shape : OtShapePlan) : Type 0 where
  pub attached : IsThere shape.layout (tag_of (codes "mark")) shape.has_gpos_mark
  -- state machines of `kern` ask for the width
  pub zeroed : shape.zero_marks ≡ loses_width (width_of own) && not (shape.apply_kern && kern.has_machine)
  pub moved_back : shape.adjust_mark_positioning_when_zeroing ≡ are_unplaced kern shape && not morx
  pub by_bounds : shape.fallback_mark_positioning ≡ has_fallback own && are_unplaced kern shape
