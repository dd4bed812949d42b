-- How the lookups of a plan are collected.
use Rattle.std.specs.Prelude.{ℕ, List, ◌≡◌, ◌<◌, ◌≤◌, ◌++◌, ◌-◌, drop, length, slice_index_or, take}
use Rattle.std.specs.List.{All, flat_map}
use Rattle.ot_map.specs.Lookups.{in_order, stages_from, taken}
use Rattle.ot_map.specs.declared.builder.ChosenTable.{ChosenTable}
use Rattle.ot_map.specs.declared.plan.Pause.{Pause}
use Rattle.ot_map.specs.declared.plan.PlannedLookup.{PlannedLookup}
use Rattle.ot_map.specs.declared.plan.Stage.{Stage}

-- Of what is listed, what a table of so many lookups has is put behind those before. So many more may then be listed.
pub record CollectsBelow (count : ℕ) (listed before : List PlannedLookup) (left_before : ℕ) (after : List PlannedLookup) (left_after : ℕ)
    : Type 0 where
  pub lookups : after ≡ before ++ taken count left_before listed
  pub left : left_after ≡ left_before - length listed

abbrev pub Collects : ChosenTable → List PlannedLookup → List PlannedLookup → ℕ → List PlannedLookup → ℕ → Type 0
Collects table listed before left_before after left_after =
    CollectsBelow table.lists.lookup_count listed before left_before after left_after

-- the same, put in order
pub record MergesStage (table : ChosenTable) (listed before : List PlannedLookup) (left_before : ℕ) (after : List PlannedLookup)
    (left_after : ℕ) : Type 0 where
  pub lookups : after ≡ before ++ in_order (taken table.lists.lookup_count left_before listed)
  pub left : left_after ≡ left_before - length listed

-- the lookups of all stages in one list, and the stages
pub record AreStagesOf (by_stage : List (List PlannedLookup)) (pauses : List Pause) (all : List PlannedLookup) (ends : List Stage) : Type 0 where
  pub lookups : all ≡ flat_map (λ lookups. lookups) by_stage
  pub stages : ends ≡ stages_from 0 by_stage pauses

-- In the first places stand the lookups up to a place, put together; all others are as they were.
pub record IsMergedTo (old now : List PlannedLookup) (len place : ℕ) : Type 0 where
  pub done : take len now ≡ in_order (take place old)
  pub rest : drop place now ≡ drop place old
  pub low : (d : PlannedLookup) → All (λ z. z.index < (slice_index_or now (len - 1) d).index) (take (len - 1) now)
  pub last : (d : PlannedLookup) → 0 < len → (slice_index_or now (len - 1) d).index ≡ (slice_index_or old (place - 1) d).index
  pub within : len ≤ place
  pub begun : 0 < place → 0 < len
  pub long : length now ≡ length old
