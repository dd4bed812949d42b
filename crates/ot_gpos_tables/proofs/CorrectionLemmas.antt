-- Corrections where no variations are chosen: those of device tables alone.
use Rattle.std.proofs.Common.{◌≡◌, ℕ, ℤ, pos, List, Option, None, Some, Bool, true, false, drop, refl, ap, sym, arith, ◌||◌, ◌*ℤ◌, ◌/◌}
use Rattle.std.proofs.lemmas.Int.{ints}
use Rattle.std.specs.Prelude.{if◌then◌else◌, nat_eq}
use Rattle.std.specs.Option.{option_map_or}
use Rattle.std.proofs.Math.Nat.{zero-div}
use borrow.Author.Tests.{eqb-true}
use Rattle.font_tables.specs.Bytes.{number_16, number_32, is_number}
use Rattle.font_variations.specs.VariationStore.{is_varied}
use Rattle.ot_gpos_tables.specs.Corrections.{variation_index, x_correction, y_correction}
use Rattle.ot_gpos_tables.specs.Devices.{delta_pixels, device_delta}
use Rattle.ot_gpos_tables.specs.Instance.{x_delta, y_delta}
use Rattle.ot_gpos_tables.specs.declared.instance.Instance.{Instance}

-- the number that is there
number_is : (o : Option ℕ) (n : ℕ) → is_number o n ≡ true → o ≡ Some n
number_is None n is = cc
number_is (Some m) n is = ap Some (eqb-true m n is)

-- a table of variations corrects no number of pixels
delta_pixels-none : (device : List ℕ) (ppem : ℕ) → is_number (number_16 device 4) 0x8000 ≡ true
    → delta_pixels device ppem ≡ pos 0
unfolding delta_pixels
delta_pixels-none device ppem is = rw (number_is (number_16 device 4) 0x8000 is) refl

mul-zero : (z : ℤ) → pos 0 *ℤ z ≡ pos 0
mul-zero z = grind (arith, ints)

div-zero : (n : ℕ) → 0 / n ≡ 0
div-zero n = zero-div n

if_same : (b : Bool) (z : ℤ) → (if b then z else z) ≡ z
if_same true z = refl
if_same false z = refl

-- no pixels are no correction
device_delta-none : (table : List ℕ) (offset ppem : ℕ) (size : ℤ) → delta_pixels (drop offset table) ppem ≡ pos 0
    → device_delta table offset ppem size ≡ pos 0
device_delta-none table offset ppem size none =
    rw (none, mul-zero, div-zero ppem) (if_same (nat_eq offset 0 || nat_eq ppem 0) (pos 0))

-- what a delta set is named by is a table of variations
is_index : (a b : Bool) (o : Option ℕ) (i : ℕ) → (if a then None else if b then o else None) ≡ Some i → b ≡ true
is_index true b o i named = cc
is_index false true o i named = refl
is_index false false o i named = cc

named : (table : List ℕ) (offset i : ℕ) → variation_index table offset ≡ Some i → is_number (number_16 (drop offset table) 4) 0x8000 ≡ true
unfolding variation_index
named table offset i e = is_index (nat_eq offset 0) _ (number_32 (drop offset table) 0) i e

-- a choice that gives what there is without it
option_map_or-same : (f : ℕ → ℤ) (o : Option ℕ) (d : ℤ) → ((i : ℕ) → o ≡ Some i → f i ≡ d) → option_map_or f o d ≡ d
option_map_or-same f None d same = refl
option_map_or-same f (Some i) d same = same i refl

-- a correction across and upwards, where no variations are chosen
pub x_correction-unvaried : (table : List ℕ) (offset : ℕ) (instance : Instance) → is_varied instance.deltas ≡ false
    → x_correction table offset instance ≡ device_delta table offset instance.scale.x_ppem instance.scale.x
unfolding x_correction
x_correction-unvaried table offset instance unvaried =
    option_map_or-same (x_delta instance) (variation_index table offset) _
    (λ i e. rw unvaried
    (sym (device_delta-none table offset instance.scale.x_ppem instance.scale.x
    (delta_pixels-none _ _ (named table offset i e)))))

pub y_correction-unvaried : (table : List ℕ) (offset : ℕ) (instance : Instance) → is_varied instance.deltas ≡ false
    → y_correction table offset instance ≡ device_delta table offset instance.scale.y_ppem instance.scale.y
unfolding y_correction
y_correction-unvaried table offset instance unvaried =
    option_map_or-same (y_delta instance) (variation_index table offset) _
    (λ i e. rw unvaried
    (sym (device_delta-none table offset instance.scale.y_ppem instance.scale.y
    (delta_pixels-none _ _ (named table offset i e)))))

pub ruleset unvaried = (x_correction-unvaried, y_correction-unvaried)
