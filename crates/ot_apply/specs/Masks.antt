-- Which glyphs have a feature, by their masks (HarfBuzz, `hb_ot_shape_setup_masks`).
use Rattle.std.specs.Prelude.{◌≡◌, ℕ, zero, suc, ◌+◌, ◌-◌, ◌==◌, ◌&&◌, ◌||◌, Bool, not, List, [], ◌∷◌, length, take, drop}
use Rattle.std.specs.Prelude.{Option, Some, None, MatchBool, bit_and, bit_or, slice_index_or, if◌then◌else◌}
use Rattle.std.specs.List.{prefix_len, suffix_len}
use Rattle.rb_common.specs.Direction.{is_forward}
use Rattle.rb_common.specs.declared.direction.Direction.{Direction}
use Rattle.rb_glyph.specs.declared.info.hb_glyph_info_t.{hb_glyph_info_t}
use Rattle.rb_glyph.specs.declared.scratch.TheConstants.{HB_BUFFER_SCRATCH_FLAG_HAS_NON_ASCII}
use Rattle.rb_text.specs.Feature.{last_end}
use Rattle.rb_text.specs.declared.feature.Feature.{Feature}
use Rattle.glyph_lists.specs.Clusters.{zero_glyph}
use Rattle.glyph_lists.specs.Marks.{with_glyph_flags}
use Rattle.glyph_lists.specs.Parts.{map_range}
use Rattle.shaping_buffer.specs.State.{State}
use Rattle.shaping_buffer.specs.ClusterStep.{set_masks, unsafe_to_break, unsafe_to_concat}
use Rattle.shaping_buffer.specs.KeepsClusters.{KeepsClusters}
use Rattle.script_items.specs.Marks.{category}
use Rattle.ot_map.specs.Masks.{mask_of, value_in}
use Rattle.ot_map.specs.Plan.{IsWithTag}
use Rattle.ot_map.specs.declared.plan.LayoutPlan.{LayoutPlan}
use Rattle.ot_map.specs.declared.plan.PlannedFeature.{PlannedFeature}
use Rattle.ot_map.specs.declared.shape_plan.OtShapePlan.{OtShapePlan}
use Rattle.ot_plan.specs.declared.planning.TextPlan.{TextPlan}

-- ---- fractions: digits, a slash, and digits (HarfBuzz, `hb_ot_shape_setup_masks_fraction`)

-- digits have the general category 13
abbrev pub is_digit : hb_glyph_info_t → Bool
is_digit g = category g == 13

-- the slash of a fraction, unless it is a digit
abbrev pub is_slash : hb_glyph_info_t → Bool
is_slash g = (g.glyph_id == 0x2044) && not (is_digit g)

-- where the digits begin that end before a place
unfoldable pub digits_start : List hb_glyph_info_t → ℕ → ℕ
digits_start l place = place - suffix_len is_digit (take place l)

-- where the digits end that begin at a place
unfoldable pub digits_end : List hb_glyph_info_t → ℕ → ℕ
digits_end l place = place + prefix_len is_digit (drop place l)

-- the features of the digits before the slash and of those behind it: in a line that runs backward numerators stand behind it
abbrev pub numerators : OtShapePlan → ℕ
numerators plan = bit_or plan.numr_mask plan.frac_mask

abbrev pub denominators : OtShapePlan → ℕ
denominators plan = bit_or plan.frac_mask plan.dnom_mask

abbrev pub mask_before : OtShapePlan → Direction → ℕ
mask_before plan direction = if is_forward direction then numerators plan else denominators plan

abbrev pub mask_behind : OtShapePlan → Direction → ℕ
mask_behind plan direction = if is_forward direction then denominators plan else numerators plan

-- each part of a fraction from `start` to `end` has its features too
unfoldable pub fraction_masked : OtShapePlan → Direction → ℕ → ℕ → ℕ → List hb_glyph_info_t → List hb_glyph_info_t
fraction_masked plan direction start slash end l =
    map_range (with_glyph_flags (mask_behind plan direction))
    (map_range (with_glyph_flags plan.frac_mask)
    (map_range (with_glyph_flags (mask_before plan direction)) l start slash) slash (slash + 1))
    (slash + 1) end

unfoldable pub with_fraction : OtShapePlan → ℕ → ℕ → ℕ → State → State
with_fraction plan start slash end s =
    record s { input = fraction_masked plan s.direction start slash end s.input }

-- A slash without digits on both sides is unsafe to concatenate. With them it is a fraction, which is unsafe to break.
unfoldable pub fraction_at : OtShapePlan → ℕ → State → State
fraction_at plan slash s =
    if (digits_start s.input slash == slash) || (digits_end s.input (slash + 1) == slash + 1)
    then unsafe_to_concat (Some slash) (Some (slash + 1)) s
    else with_fraction plan (digits_start s.input slash) slash (digits_end s.input (slash + 1))
    (unsafe_to_break (Some (digits_start s.input slash)) (Some (digits_end s.input (slash + 1))) s)

unfoldable pub slash_at : OtShapePlan → ℕ → State → State
slash_at plan place s = if is_slash (slice_index_or s.input place zero_glyph) then fraction_at plan place s else s

-- the slashes before a place, one after the other
abbrev pub fractions_before : OtShapePlan → ℕ → State → State
fractions_before plan zero s = s
fractions_before plan (suc place) s = slash_at plan place (fractions_before plan place s)

-- all slashes, where the text has characters past ASCII and the font makes fractions
unfoldable pub with_fractions : OtShapePlan → State → State
with_fractions plan s =
    if not (bit_and s.scratch_flags HB_BUFFER_SCRATCH_FLAG_HAS_NON_ASCII == 0) && plan.has_frac
    then fractions_before plan (length s.input) s
    else s

-- ---- a user's features

-- a feature of all the text, whose value is in the mask of every glyph
abbrev pub is_of_all : Feature → Bool
is_of_all f = (f.start == 0) && (f.end == last_end)

-- the bits of a feature of the plan become the value in the glyphs of a range of clusters
abbrev pub with_value : Feature → Option PlannedFeature → State → State
with_value f None s = s
with_value f (Some p) s =
    set_masks (value_in p.bits.shift p.bits.count f.value) (mask_of p.bits.shift p.bits.count) f.start f.end s

-- those of a feature with this tag
abbrev pub HasValue : LayoutPlan → Feature → State → State → Type 0
HasValue plan f old new =
    (found : Option PlannedFeature) × (IsWithTag plan.features.items f.tag.0 found × (new ≡ with_value f found old))

abbrev pub HasFeature : LayoutPlan → Feature → State → State → Type 0
HasFeature plan f old new = MatchBool (is_of_all f) (new ≡ old) (HasValue plan f old new)

-- one feature after the other
abbrev pub HasFeatures : LayoutPlan → List Feature → State → State → Type 0
HasFeatures plan [] old new = new ≡ old
HasFeatures plan (f ∷ fs) old new = (next : State) × (HasFeature plan f old next × HasFeatures plan fs next new)

-- ---- all of them

-- Fractions come first, then what the shaper of the script sets, and last the user's features.
pub record HasMasks (plan : TextPlan) (asked : List Feature) (old new : State) : Type 0 where
  pub shaped : State
  pub kept : KeepsClusters (with_fractions plan.shape old) shaped
  pub features : HasFeatures plan.shape.layout asked shaped new
