-- How bits are given to one feature after the other.
use Rattle.std.specs.Prelude.{ℕ, ◌≡◌, ◌≤◌, ◌+◌}
use Rattle.ot_map.specs.Allocation.{HasOwnBits}
use Rattle.ot_map.specs.declared.plan.PlannedFeature.{PlannedFeature}

-- the bits of its own that a feature has, if it has any, begin at a bit, and leave the two highest free
abbrev pub StandsFrom : ℕ → PlannedFeature → Type 0
StandsFrom next feature = HasOwnBits feature → (feature.bits.shift ≡ next) × (next + feature.bits.count ≤ 30)

-- the first free bit moves up to behind the feature's own bits
abbrev pub IsNextBehind : PlannedFeature → ℕ → ℕ → Type 0
IsNextBehind feature next result =
    (next ≤ 30 → result ≤ 30) × (next ≤ result) × (HasOwnBits feature → feature.bits.shift + feature.bits.count ≤ result)
