-- The plan of what a builder has collected (HarfBuzz, `hb_ot_map_builder_t::compile`).
use Rattle.std.specs.Prelude.{◌≡◌, ◌∷◌, ◌++◌, ◌==◌, ℕ, List, [], if◌then◌else◌, map, nat_eq, option_and_then, option_map, unwrap_or}
use Rattle.std.specs.List.{find, flat_map}
use Rattle.ot_map.specs.Features.{Planned, found, planned_features, seen}
use Rattle.ot_map.specs.Lookups.{by_stage, in_order, positions_list, stage_lists, stages_from, taken}
use Rattle.ot_map.specs.Tables.{feature_tag, required_feature}
use Rattle.ot_map.specs.declared.builder.ChosenTable.{ChosenTable}
use Rattle.ot_map.specs.declared.builder.PlanBuilder.{PlanBuilder}
use Rattle.ot_map.specs.declared.plan.LayoutPlan.{LayoutPlan}
use Rattle.ot_map.specs.declared.plan.Pause.{Pause}
use Rattle.ot_map.specs.declared.plan.Pause.TheVariants.{Nothing}
use Rattle.ot_map.specs.declared.plan.PlannedFeature.{PlannedFeature}
use Rattle.ot_map.specs.declared.plan.PlannedLookup.{PlannedLookup}
use Rattle.ot_map.specs.declared.request.FeatureRequest.{FeatureRequest}

-- bits are given from the fifth one on: below it stand the glyph flags, and one bit that is spare
abbrev pub features_of : PlanBuilder → List Planned
features_of builder = planned_features 4 (map (found builder.gsub builder.gpos) builder.requests.items)

-- the stage of the request of a tag, if it is not turned off, and else the first one
abbrev pub stage_asked : FeatureRequest → ℕ
stage_asked q = if nat_eq q.max_value 0 then 0 else q.stage

abbrev pub stage_of : List FeatureRequest → ℕ → ℕ
stage_of requests tag = unwrap_or (option_map stage_asked (find (λ q. q.tag.0 == tag) requests)) 0

-- the stage of the feature that GSUB requires
abbrev pub required_stage : ChosenTable → List FeatureRequest → ℕ
required_stage gsub requests =
    unwrap_or (option_map (stage_of requests)
    (option_and_then (feature_tag gsub.lists.features.now) (required_feature gsub.system.now))) 0

-- the stages of substitution end with the pauses, the last one with none
abbrev pub pauses_of : PlanBuilder → List Pause
pauses_of builder = builder.pauses.items ++ Nothing ∷ []

abbrev pub lookups_of : PlanBuilder → List PlannedFeature → List (List PlannedLookup)
lookups_of builder features =
    by_stage builder.gsub (stage_lists builder.gsub (required_stage builder.gsub builder.requests.items) features)
    35000 0 (pauses_of builder)

pub record IsCompiled (builder : PlanBuilder) (plan : LayoutPlan) : Type 0 where
  pub features : map seen plan.features.items ≡ features_of builder
  pub substitutions : plan.gsub_lookups.items ≡ flat_map (λ lookups. lookups) (lookups_of builder plan.features.items)
  pub stages : plan.stages.items ≡ stages_from 0 (lookups_of builder plan.features.items) (pauses_of builder)
  pub positions : plan.gpos_lookups.items
      ≡ in_order (taken builder.gpos.lists.lookup_count 35000 (positions_list builder.gpos plan.features.items))
  pub scripts : (plan.gsub_script ≡ builder.gsub.script.tag) × (plan.gpos_script ≡ builder.gpos.script.tag)
