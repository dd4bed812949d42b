-- Products in which a factor is nothing.
use Rattle.std.proofs.Common.{◌≡◌, ℕ, zero, suc, ◌<◌, Bool, true, false, ◌+◌, add-one, refl, arith, subst, inl, inr, ◌||◌}
use Rattle.std.proofs.lemmas.Bool.{cases_lt}
use Rattle.std.proofs.lemmas.Grind.{common_steps}
use Rattle.std.specs.Float.{float_zero, float_one}
use Rattle.std.specs.Float.Ieee.{Float, eq, mul, div, binary32}
use Rattle.font_variations.specs.Regions.{factor, has_zero, product, region_scalar, float, axis_scalar, inner_scalar, is_at_peak, is_disordered, is_outside}
use Rattle.std.specs.Prelude.{ℤ, pos, negsuc, List, unwrap_or, nat_lt, if◌then◌else◌, int_lt, ◌-ℤ◌}
use Rattle.std.specs.Ordering.{int_eq}
use Rattle.std.proofs.Common.{of_z, w32}
use Rattle.font_tables.specs.Bytes.{number_16}
use Rattle.font_variations.proofs.FloatLemmas.{of_bits_zero}

-- a choice of the same value
if_same : (b : Bool) (x : Float) → (if b then x else x) ≡ x
if_same true x = refl
if_same false x = refl

-- an `or` whose second part is true
or_second : (a b : Bool) → b ≡ true → (a || b) ≡ true
or_second a b e = grind (arith, common_steps)

-- once one of the first factors is nothing, it stays one of them
pub has_zero_from : (f : ℕ → Float) (n i : ℕ) → i < n → eq (f i) float_zero ≡ true → has_zero f n ≡ true
has_zero_from f zero i less nothing = absurd (omega arith)
has_zero_from f (suc n) i less nothing =
    elim (cases_lt i n) [
      | inl below ↦ rw (has_zero_from f n i below nothing) refl
      | inr most ↦
          let here : i ≡ n = omega arith in
          or_second (has_zero f n) _ (subst (λ k. eq (f k) float_zero ≡ true) here nothing)
    ]

-- a region one of whose axes leaves nothing
pub region_scalar-nothing : (list : List ℕ) (region : ℕ) (coordinates : List ℤ)
    → has_zero (factor list region coordinates) (unwrap_or (number_16 list 0) 0) ≡ true
    → region_scalar list region coordinates ≡ float_zero
unfolding region_scalar
region_scalar-nothing list region coordinates nothing =
    rw nothing (if_same (nat_lt region (unwrap_or (number_16 list 2) 0)) float_zero)

-- one more factor that is something
pub has_zero_more : (f : ℕ → Float) (i n : ℕ) → n ≡ i + 1 → has_zero f i ≡ false → eq (f i) float_zero ≡ false → has_zero f n ≡ false
has_zero_more f i n e none some = rw (e, add-one, none, some) refl

-- the product with one more factor
pub product_more : (f : ℕ → Float) (i n : ℕ) → n ≡ i + 1 → product f n ≡ mul binary32 (product f i) (f i)
product_more f i n e = rw (e, add-one) refl

pub ruleset factors = (has_zero_from, has_zero_more, product_more, of_bits_zero)

-- the scalar on each side of the peak
pub inner_scalar-rises : (start peak end at : ℤ) → is_outside start end at ≡ false → int_lt at peak ≡ true
    → inner_scalar start peak end at ≡ div binary32 (float (at -ℤ start)) (float (peak -ℤ start))
inner_scalar-rises start peak end at inside before = rw (inside, before) refl

pub inner_scalar-falls : (start peak end at : ℤ) → is_outside start end at ≡ false → int_lt at peak ≡ false
    → inner_scalar start peak end at ≡ div binary32 (float (end -ℤ at)) (float (end -ℤ peak))
inner_scalar-falls start peak end at inside behind = rw (inside, behind) refl

-- a scalar that counts in full, and one between the default and the peak
pub axis_scalar-disordered : (start peak end at : ℤ) → is_at_peak peak at ≡ false → int_eq at (pos 0) ≡ false
    → is_disordered start peak end ≡ true
    → axis_scalar start peak end at ≡ float_one
unfolding axis_scalar
axis_scalar-disordered start peak end at other some disordered = rw (other, some, disordered) refl

pub axis_scalar-inner : (start peak end at : ℤ) → is_at_peak peak at ≡ false → int_eq at (pos 0) ≡ false
    → is_disordered start peak end ≡ false
    → axis_scalar start peak end at ≡ inner_scalar start peak end at
unfolding axis_scalar
axis_scalar-inner start peak end at other some ordered = rw (other, some, ordered) refl

eqb_suc_zero : (n : ℕ) → int_eq (pos (suc n)) (pos 0) ≡ false
eqb_suc_zero n = grind (arith, common_steps)

-- a coordinate whose bits are not 0 is not the default
pub not_default : (at : ℤ) → (of_z w32 at ≡ 0 → ⊥) → int_eq at (pos 0) ≡ false
not_default (pos zero) some = absurd (some refl)
not_default (pos (suc n)) some = eqb_suc_zero n
not_default (negsuc n) some = refl
