-- The lookups of a plan: those of its features, in the order of their numbers.
use Rattle.std.specs.Prelude.{ℕ, List, [], ◌∷◌, ◌++◌, Option, Some, None, ◌+◌, ◌-◌, ◌==◌, ◌^◌, ◌&&◌, ◌||◌, bit_or}
use Rattle.std.specs.Prelude.{if◌then◌else◌, length, map, nat_eq, nat_lt, not, take, unwrap_or}
use Rattle.std.specs.List.{filter, flat_map, range_with_len}
use Rattle.ot_map.specs.Masks.{mask_of}
use Rattle.ot_map.specs.Requests.{no_flag}
use Rattle.ot_map.specs.Tables.{chosen_feature_table, feature_lookup, feature_lookup_count, required_feature}
use Rattle.ot_map.specs.declared.builder.ChosenTable.{ChosenTable}
use Rattle.ot_map.specs.declared.plan.Pause.{Pause}
use Rattle.ot_map.specs.declared.plan.PlannedFeature.{PlannedFeature}
use Rattle.ot_map.specs.declared.plan.PlannedLookup.{PlannedLookup}
use Rattle.ot_map.specs.declared.plan.Stage.{Stage}
use Rattle.ot_map.specs.declared.request.FeatureFlags.{FeatureFlags}

-- a lookup for the glyphs that have one of these bits, applied as a feature's flags say
abbrev pub lookup_with : ℕ → FeatureFlags → ℕ → PlannedLookup
lookup_with mask flags index = record {
  index = index;
  mask = mask;
  auto_zwnj = not flags.manual_zwnj;
  auto_zwj = not flags.manual_zwj;
  random = flags.random;
  per_syllable = flags.per_syllable;
}

-- the lookups that a feature table lists
abbrev pub in_feature : List ℕ → ℕ → FeatureFlags → List PlannedLookup
in_feature feature mask flags =
    map (λ place. lookup_with mask flags (unwrap_or (feature_lookup feature place) 0))
    (range_with_len 0 (feature_lookup_count feature))

-- those of a feature, if there is one
abbrev pub listed_by : ChosenTable → ℕ → FeatureFlags → Option ℕ → List PlannedLookup
listed_by table mask flags None = []
listed_by table mask flags (Some feature) =
    in_feature (chosen_feature_table table.lists.features.now table.lists.substitutions.now feature) mask flags

-- those of the feature that the language system requires, for every glyph
abbrev pub listed_by_required : ChosenTable → List PlannedLookup
listed_by_required table = listed_by table (2 ^ 31) no_flag (required_feature table.system.now)

-- those of a planned feature in GSUB, where it is of a stage
abbrev pub listed_in_stage : ChosenTable → ℕ → PlannedFeature → List PlannedLookup
listed_in_stage gsub stage f =
    if nat_eq f.stage stage then listed_by gsub (mask_of f.bits.shift f.bits.count) f.flags f.gsub else []

-- those of the required feature, where it is of a stage
abbrev pub required_in : ChosenTable → ℕ → ℕ → List PlannedLookup
required_in gsub required_stage stage = if nat_eq stage required_stage then listed_by_required gsub else []

-- all those of a stage
abbrev pub stage_lists : ChosenTable → ℕ → List PlannedFeature → ℕ → List PlannedLookup
stage_lists gsub required_stage features stage =
    required_in gsub required_stage stage ++ flat_map (listed_in_stage gsub stage) features

-- those of a planned feature in GPOS, and all those of GPOS
abbrev pub listed_in_positions : ChosenTable → PlannedFeature → List PlannedLookup
listed_in_positions gpos f = listed_by gpos (mask_of f.bits.shift f.bits.count) f.flags f.gpos

abbrev pub positions_list : ChosenTable → List PlannedFeature → List PlannedLookup
positions_list gpos features = listed_by_required gpos ++ flat_map (listed_in_positions gpos) features

-- those that are in a table of so many, where so many more may be listed
abbrev pub taken : ℕ → ℕ → List PlannedLookup → List PlannedLookup
taken count left listed = filter (λ lookup. nat_lt lookup.index count) (take left listed)

-- two entries of one lookup: it is for the glyphs of both
abbrev pub together : PlannedLookup → PlannedLookup → PlannedLookup
together a b = record a {
  mask = bit_or a.mask b.mask;
  auto_zwnj = a.auto_zwnj && b.auto_zwnj;
  auto_zwj = a.auto_zwj && b.auto_zwj;
  random = a.random || b.random;
  per_syllable = a.per_syllable || b.per_syllable;
}

-- one more lookup, in its place by its number
abbrev pub with_lookup : PlannedLookup → List PlannedLookup → List PlannedLookup
with_lookup lookup [] = lookup ∷ []
with_lookup lookup (first ∷ others) =
    if first.index == lookup.index then together first lookup ∷ others
    else if nat_lt lookup.index first.index then lookup ∷ first ∷ others
    else first ∷ with_lookup lookup others

-- in the order of their numbers, each number once
abbrev pub in_order : List PlannedLookup → List PlannedLookup
in_order [] = []
in_order (lookup ∷ others) = with_lookup lookup (in_order others)

-- the lookups of each stage from one on, which ends with a pause
abbrev pub by_stage : ChosenTable → (ℕ → List PlannedLookup) → ℕ → ℕ → List Pause → List (List PlannedLookup)
by_stage gsub lists left stage [] = []
by_stage gsub lists left stage (pause ∷ pauses) =
    in_order (taken gsub.lists.lookup_count left (lists stage))
    ∷ by_stage gsub lists (left - length (lists stage)) (stage + 1) pauses

-- where each stage ends, in the list of all lookups, and its pause
abbrev pub stages_from : ℕ → List (List PlannedLookup) → List Pause → List Stage
stages_from start [] pauses = []
stages_from start (lookups ∷ others) [] = []
stages_from start (lookups ∷ others) (pause ∷ pauses) =
    record { end = start + length lookups; pause = pause } ∷ stages_from (start + length lookups) others pauses
