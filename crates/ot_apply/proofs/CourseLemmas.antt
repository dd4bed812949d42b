-- Whether the clusters of glyphs run up or down, by neighbours.
use Rattle.std.proofs.Common.{◌≡◌, ℕ, zero, suc, ◌+◌, ◌-◌, ◌<◌, ◌≤◌, Bool, true, false, List, length, get_or, sym, subst, arith, inl, inr}
use Rattle.std.proofs.lemmas.Bool.{cases_lt}
use Rattle.rb_glyph.specs.declared.info.hb_glyph_info_t.{hb_glyph_info_t}
use Rattle.glyph_lists.specs.Clusters.{NeverFalls, NeverRises, clusters, zero_glyph}
use Rattle.glyph_lists.specs.KeptClusters.{Runs}
use Rattle.glyph_lists.proofs.ClustersLemmas.{get_or-clusters, length-clusters}
use Rattle.glyph_laws.proofs.ReadingsLemmas.{at}

-- from each number to the next, and so from each to any that is n places behind it
module _ (cs : List ℕ) where
  up_by : ((k : ℕ) → k + 1 < length cs → get_or cs k 0 ≤ get_or cs (k + 1) 0) → (n i : ℕ) → i + n < length cs
      → get_or cs i 0 ≤ get_or cs (i + n) 0
  up_by next zero i in_cs = let e : i + 0 ≡ i = omega arith in subst (λ k. get_or cs i 0 ≤ get_or cs k 0) (sym e) (omega arith)
  up_by next (suc n) i in_cs =
      let e : i + 1 + n ≡ i + suc n = omega arith in
      let rest = up_by next n (i + 1) (omega arith) in
      subst (λ k. get_or cs i 0 ≤ get_or cs k 0) e (omega (arith, next i (omega arith), rest))

  down_by : ((k : ℕ) → k + 1 < length cs → get_or cs (k + 1) 0 ≤ get_or cs k 0) → (n i : ℕ) → i + n < length cs
      → get_or cs (i + n) 0 ≤ get_or cs i 0
  down_by next zero i in_cs = let e : i + 0 ≡ i = omega arith in subst (λ k. get_or cs k 0 ≤ get_or cs i 0) (sym e) (omega arith)
  down_by next (suc n) i in_cs =
      let e : i + 1 + n ≡ i + suc n = omega arith in
      let rest = down_by next n (i + 1) (omega arith) in
      subst (λ k. get_or cs k 0 ≤ get_or cs i 0) e (omega (arith, next i (omega arith), rest))

  rises_by : ((k : ℕ) → k + 1 < length cs → get_or cs k 0 ≤ get_or cs (k + 1) 0) → NeverFalls cs
  rises_by next i j le in_cs =
      let e : i + (j - i) ≡ j = omega arith in
      subst (λ k. get_or cs i 0 ≤ get_or cs k 0) e (up_by next (j - i) i (omega arith))

  falls_by : ((k : ℕ) → k + 1 < length cs → get_or cs (k + 1) 0 ≤ get_or cs k 0) → NeverRises cs
  falls_by next i j le in_cs =
      let e : i + (j - i) ≡ j = omega arith in
      subst (λ k. get_or cs k 0 ≤ get_or cs i 0) e (down_by next (j - i) i (omega arith))

-- neighbours among the first n glyphs, and what they say of all
module _ (l : List hb_glyph_info_t) where
  abbrev pub RisesBelow : ℕ → Type 0
  RisesBelow n = (k : ℕ) → k + 1 < n → (at l k).cluster ≤ (at l (k + 1)).cluster

  abbrev pub FallsBelow : ℕ → Type 0
  FallsBelow n = (k : ℕ) → k + 1 < n → (at l (k + 1)).cluster ≤ (at l k).cluster

  pub rises_below : (n : ℕ) → length l ≤ n → RisesBelow n → NeverFalls (clusters l)
  rises_below n all next = rises_by (clusters l) (λ k in_l. omega (
    arith,
    next k (omega (arith, length-clusters l)),
    get_or-clusters l k zero_glyph (omega (arith, length-clusters l)),
    get_or-clusters l (k + 1) zero_glyph (omega (arith, length-clusters l)),
  ))

  pub falls_below : (n : ℕ) → length l ≤ n → FallsBelow n → NeverRises (clusters l)
  falls_below n all next = falls_by (clusters l) (λ k in_l. omega (
    arith,
    next k (omega (arith, length-clusters l)),
    get_or-clusters l k zero_glyph (omega (arith, length-clusters l)),
    get_or-clusters l (k + 1) zero_glyph (omega (arith, length-clusters l)),
  ))

  pub fall_found : (n : ℕ) → 0 < n → n < length l → (at l n).cluster < (at l (n - 1)).cluster
      → NeverFalls (clusters l) → ⊥
  fall_found n some in_l down rises = omega (
    arith,
    down,
    rises (n - 1) n (omega arith) (omega (arith, length-clusters l)),
    get_or-clusters l (n - 1) zero_glyph (omega arith),
    get_or-clusters l n zero_glyph in_l,
  )

  pub rise_found : (n : ℕ) → 0 < n → n < length l → (at l (n - 1)).cluster < (at l n).cluster
      → NeverRises (clusters l) → ⊥
  rise_found n some in_l up falls = omega (
    arith,
    up,
    falls (n - 1) n (omega arith) (omega (arith, length-clusters l)),
    get_or-clusters l (n - 1) zero_glyph (omega arith),
    get_or-clusters l n zero_glyph in_l,
  )

  -- one glyph more
  pub rises_next : (n : ℕ) → RisesBelow n → ((at l (n - 1)).cluster ≤ (at l n).cluster) → RisesBelow (n + 1)
  rises_next n below step k in_l = elim (cases_lt (k + 1) n) [
    | inl lt ↦ below k lt
    | inr ge ↦
        let e : k + 1 ≡ n = omega arith in
        let e2 : n - 1 ≡ k = omega arith in
        subst (λ i. (at l k).cluster ≤ (at l i).cluster) (sym e) (subst (λ i. (at l i).cluster ≤ (at l n).cluster) e2 step)
  ]

  pub falls_next : (n : ℕ) → FallsBelow n → ((at l n).cluster ≤ (at l (n - 1)).cluster) → FallsBelow (n + 1)
  falls_next n below step k in_l = elim (cases_lt (k + 1) n) [
    | inl lt ↦ below k lt
    | inr ge ↦
        let e : k + 1 ≡ n = omega arith in
        let e2 : n - 1 ≡ k = omega arith in
        subst (λ i. (at l i).cluster ≤ (at l k).cluster) (sym e) (subst (λ i. (at l n).cluster ≤ (at l i).cluster) e2 step)
  ]

pub neither : (cs : List ℕ) → (NeverFalls cs → ⊥) → (NeverRises cs → ⊥) → (up : Bool) → Runs up cs → ⊥
neither cs rises falls true = rises
neither cs rises falls false = falls

-- what search closes by
pub ruleset rising = (fall_found, rises_next)

pub ruleset falling = (rise_found, falls_next)
