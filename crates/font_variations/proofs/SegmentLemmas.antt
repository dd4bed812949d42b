-- Segment maps.
use Rattle.std.proofs.Common.{◌≡◌, ℕ, zero, suc, List, ℤ, None, true, false, refl, arith, ◌≤◌, inl, inr}
use Rattle.std.specs.Prelude.{nat_eq, ◌-◌}
use Rattle.std.proofs.lemmas.Bool.{cases_lt}
use Rattle.font_variations.specs.SegmentMaps.{end_of, from_at, in_segment, is_up_to_first, mapped, pair_count, segment_of, shifted, to_at}

-- up to the first pair, and behind it
pub mapped_first : (map : List ℕ) (at : ℤ) → nat_eq (pair_count map) 0 ≡ false → is_up_to_first map at ≡ true
    → mapped map at ≡ shifted at (from_at map 0) (to_at map 0)
unfolding mapped
mapped_first map at some first = rw (some, first) refl

pub mapped_behind : (map : List ℕ) (at : ℤ) → nat_eq (pair_count map) 0 ≡ false → is_up_to_first map at ≡ false
    → mapped map at ≡ in_segment map (segment_of map (pair_count map - 1) at) at
unfolding mapped
mapped_behind map at some behind = rw (some, behind) refl

-- where one map is not all there, those behind it are not
pub end_of_none : (maps : List ℕ) (n i : ℕ) → i ≤ n → end_of maps i ≡ None → end_of maps n ≡ None
end_of_none maps zero zero below none = none
end_of_none maps zero (suc i) below none = absurd (omega arith)
end_of_none maps (suc n) i below none =
    elim (cases_lt n i) [
      | inl above ↦ let here : i ≡ suc n = omega arith in rw here at none
      | inr inside ↦ rw (end_of_none maps n i inside none) refl
    ]
