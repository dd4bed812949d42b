-- The second glyphs of the ligatures of each set.
use Rattle.std.proofs.Common.{◌≡◌, ℕ, ◌+◌, ◌<◌, ◌≤◌, Bool, false, List, [], Some, refl, arith, subst, sym, inl, inr, nat_lt}
use Rattle.std.proofs.Common.{unwrap_or, if◌then◌else◌}
use Rattle.std.proofs.lemmas.Bool.{cases_Bool, cases_lt}
use Rattle.std.proofs.lemmas.Grind.{common_steps}
use Rattle.font_tables.specs.Bytes.{number_16}
use Rattle.glyph_digests.specs.Digest.{HasMore, may_have}
use Rattle.ot_lookups.specs.Seconds.{HasSecond, HasSecondAt, HasSecondOfEach}
use Rattle.ot_lookups.specs.Sets.{set_at}
use Rattle.glyph_digests.specs.declared.digest.Digest.{Digest}

not_before : (d e : Digest) (g : ℕ) → HasMore d e → may_have e g ≡ false → may_have d g ≡ false
not_before d e g more none =
    elim (cases_Bool (may_have d g)) [
      | inl there ↦ let so = more g there in cc
      | inr missing ↦ missing
    ]

-- a digest that has more
pub second_more : (t : List ℕ) (d e : Digest) → HasMore d e → HasSecond t d → HasSecond t e
second_more t d e more has = λ g none. has g (not_before d e g more none)

pub at_more : (set : List ℕ) (k : ℕ) (d e : Digest) → HasMore d e → HasSecondAt set k d → HasSecondAt set k e
at_more set k d e more has = λ t some. second_more t d e more (has t some)

pub each_more : (set : List ℕ) (d e : Digest) → HasMore d e → HasSecondOfEach set d → HasSecondOfEach set e
each_more set d e more has = λ k less. at_more set k d e more (has k less)

-- one more ligature of a set
pub one_more : (set : List ℕ) (d e : Digest) (n : ℕ) → HasMore d e → HasSecondAt set n e
    → ((k : ℕ) → k < n → HasSecondAt set k d) → (k : ℕ) → k < n + 1 → HasSecondAt set k e
one_more set d e n more here before k less =
    elim (cases_lt k n) [
      | inl below ↦ at_more set k d e more (before k below)
      | inr last ↦
          let is : n ≡ k = omega (arith, less, last) in
          subst (λ m. HasSecondAt set m e) is here
    ]

-- one more set of a subtable
pub one_more_set : (table : List ℕ) (d e : Digest) (n : ℕ) → HasMore d e → HasSecondOfEach (set_at table n) e
    → ((k : ℕ) → k < n → HasSecondOfEach (set_at table k) d) → (k : ℕ) → k < n + 1 → HasSecondOfEach (set_at table k) e
one_more_set table d e n more here before k less =
    elim (cases_lt k n) [
      | inl below ↦ each_more (set_at table k) d e more (before k below)
      | inr last ↦
          let is : n ≡ k = omega (arith, less, last) in
          subst (λ m. HasSecondOfEach (set_at table m) e) is here
    ]

-- a set that is not there has no ligatures
if-empty : (b : Bool) (set : List ℕ) → b ≡ false → (if b then set else []) ≡ []
if-empty b set is = rw is refl

none_there : (d : Digest) → HasSecondOfEach [] d
unfolding number_16
none_there d = λ k less. absurd (omega (arith, less))

pub sets_end : (table : List ℕ) (d : Digest) (k : ℕ) → unwrap_or (number_16 table 4) 0 ≤ k → HasSecondOfEach (set_at table k) d
unfolding set_at
sets_end table d k beyond =
    let out : nat_lt k (unwrap_or (number_16 table 4) 0) ≡ false = grind (arith, common_steps) in
    subst (λ set. HasSecondOfEach set d) (sym (if-empty _ _ out)) (none_there d)

-- a set that is there, or not
pub each_set : (table : List ℕ) (d e : Digest) (n index : ℕ) → ((k : ℕ) → k < n → HasSecondOfEach (set_at table k) d)
    → unwrap_or (number_16 table 4) 0 ≤ n → Some d ≡ Some e → HasSecondOfEach (set_at table index) e
each_set table d e n index before end same =
    let is : d ≡ e = cc in
    let here : HasSecondOfEach (set_at table index) d =
    elim (cases_lt index n) [
      | inl below ↦ before index below
      | inr beyond ↦ sets_end table d index (omega (arith, end, beyond))
    ] in
    subst (λ x. HasSecondOfEach (set_at table index) x) is here
