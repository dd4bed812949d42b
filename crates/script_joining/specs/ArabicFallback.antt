-- Lookups for the forms of Arabic letters that a font has as characters (HarfBuzz, `arabic_fallback_plan_t`).
use Rattle.std.specs.Prelude.{◌≢◌, ◌≤◌, ◌+◌, ℕ, All, List, length, Result, OnOk}

-- the masks of lookups, to which one is added at the most; none of them is 0
abbrev pub AddsMask : {A E : Type 0} → Result A E → List ℕ → List ℕ → Type 0
AddsMask r old new = record {
  few : OnOk r (length new ≤ length old + 1);
  masks : OnOk r (All (λ mask. mask ≢ 0) old → All (λ mask. mask ≢ 0) new);
}
