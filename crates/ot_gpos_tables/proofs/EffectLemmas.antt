-- A record without an effect moves nothing.
use Rattle.std.proofs.Common.{◌≡◌, ◌⊎◌, inl, inr, ℕ, ℤ, pos, List, Bool, true, false, ◌&&◌, ◌||◌, refl, arith, ap, ◌∙◌, ◌-ℤ◌}
use Rattle.std.proofs.lemmas.Bool.Decides.{Decides-int_eq}
use Rattle.std.proofs.lemmas.Grind.{common_steps}
use Rattle.std.proofs.lemmas.Int.{ints, int_wrap_fits, wrapping_sub_is}
use Rattle.std.proofs.Math.Bool.{or-true}
use Rattle.std.specs.Prelude.{FitsSigned, nat_eq, not}
use Rattle.std.specs.Ordering.{int_eq}
use Rattle.std.specs.Int.{int_wrap, int_wrapping_sub, w32}
use borrow.Author.Tests.{eqb-true}
use Rattle.ot_gpos_tables.specs.Corrections.{x_correction, y_correction}
use Rattle.ot_gpos_tables.specs.Devices.{device_delta}
use Rattle.ot_gpos_tables.specs.Values.{has_corrections, has_effect, may_move, minus, moved_x, moved_y, moved_back, EffectIsTold}
use Rattle.ot_gpos_tables.specs.declared.instance.Instance.{Instance}
use Rattle.ot_gpos_tables.proofs.CorrectionLemmas.{x_correction-unvaried, y_correction-unvaried}
use Rattle.ot_gpos_tables.proofs.ValueLemmas.{em_scale-zero, no_fit, x_correction-none, y_correction-none}
use Rattle.ot_gpos_tables.proofs.ValueLemmas.{plus_nothing}

-- neither of two
neither : (a b : Bool) → (a || b) ≡ false → (a ≡ false) × (b ≡ false)
neither false false none = (refl, refl)
neither false true none = cc
neither true b none = cc

not_both : (a b : Bool) → (not a && b) ≡ false → (a ≡ true) ⊎ (b ≡ false)
not_both true b none = inl refl
not_both false b none = inr none

is_zero : (z : ℤ) → not (int_eq z (pos 0)) ≡ false → z ≡ pos 0
is_zero z none = grind (arith, common_steps, Decides-int_eq)

no_pixel : (n : ℕ) → not (nat_eq n 0) ≡ false → n ≡ 0
no_pixel n none = grind (arith, common_steps)

device_delta-none : (table : List ℕ) (offset ppem : ℕ) (size : ℤ) → ppem ≡ 0
    → device_delta table offset ppem size ≡ pos 0
device_delta-none table offset ppem size none = rw (none, or-true (nat_eq offset 0)) refl

-- no correction where there is no device table, or it is not asked
x_correction-unmoved : (base : List ℕ) (instance : Instance) (device : ℕ)
    → (not (nat_eq device 0) && has_corrections instance instance.scale.x_ppem) ≡ false → x_correction base device instance ≡ pos 0
x_correction-unmoved base instance device none =
    elim (not_both (nat_eq device 0) (has_corrections instance instance.scale.x_ppem) none) [
      | inl absent ↦ rw (eqb-true device 0 absent) (x_correction-none base instance)
      | inr unasked ↦
          let parts = neither _ _ unasked in
          x_correction-unvaried base device instance parts.1
          ∙ device_delta-none base device instance.scale.x_ppem instance.scale.x
          (no_pixel instance.scale.x_ppem parts.0)
    ]

y_correction-unmoved : (base : List ℕ) (instance : Instance) (device : ℕ)
    → (not (nat_eq device 0) && has_corrections instance instance.scale.y_ppem) ≡ false → y_correction base device instance ≡ pos 0
y_correction-unmoved base instance device none =
    elim (not_both (nat_eq device 0) (has_corrections instance instance.scale.y_ppem) none) [
      | inl absent ↦ rw (eqb-true device 0 absent) (y_correction-none base instance)
      | inr unasked ↦
          let parts = neither _ _ unasked in
          y_correction-unvaried base device instance parts.1
          ∙ device_delta-none base device instance.scale.y_ppem instance.scale.y
          (no_pixel instance.scale.y_ppem parts.0)
    ]

sub-zero : (z : ℤ) → z -ℤ pos 0 ≡ z
sub-zero z = grind (arith, ints)

int_wrapping_sub-zero : (n : ℤ) → FitsSigned w32 n → int_wrapping_sub w32 n (pos 0) ≡ n
int_wrapping_sub-zero n fits =
    wrapping_sub_is w32 n (pos 0) fits no_fit ∙ ap (int_wrap w32) (sub-zero n) ∙ int_wrap_fits w32 n fits

minus_nothing : (n : ℤ) → FitsSigned w32 n → minus n (pos 0) (pos 0) ≡ n
minus_nothing n fits = rw (int_wrapping_sub-zero n fits) (int_wrapping_sub-zero n fits)

-- numbers that stay
moved_x-kept : (base : List ℕ) (instance : Instance) (value : ℤ) (device : ℕ) (n : ℤ) → FitsSigned w32 n
    → may_move instance instance.scale.x_ppem value device ≡ false → moved_x base instance value device n ≡ n
unfolding moved_x
moved_x-kept base instance value device n fits none =
    let parts = neither _ _ none in
    rw (
      is_zero value parts.0,
      em_scale-zero instance.scale.x instance.scale.units_per_em,
      x_correction-unmoved base
          instance device parts.1,
    )
    (plus_nothing n fits)

moved_y-kept : (base : List ℕ) (instance : Instance) (value : ℤ) (device : ℕ) (n : ℤ) → FitsSigned w32 n
    → may_move instance instance.scale.y_ppem value device ≡ false → moved_y base instance value device n ≡ n
unfolding moved_y
moved_y-kept base instance value device n fits none =
    let parts = neither _ _ none in
    rw (
      is_zero value parts.0,
      em_scale-zero instance.scale.y instance.scale.units_per_em,
      y_correction-unmoved base
          instance device parts.1,
    )
    (plus_nothing n fits)

moved_back-kept : (base : List ℕ) (instance : Instance) (value : ℤ) (device : ℕ) (n : ℤ) → FitsSigned w32 n
    → may_move instance instance.scale.y_ppem value device ≡ false → moved_back base instance value device n ≡ n
unfolding moved_back
moved_back-kept base instance value device n fits none =
    let parts = neither _ _ none in
    rw (
      is_zero value parts.0,
      em_scale-zero instance.scale.y instance.scale.units_per_em,
      y_correction-unmoved base
          instance device parts.1,
    )
    (minus_nothing n fits)

-- a glyph that stays
pub no_effect : EffectIsTold
unfolding has_effect
no_effect instance true v none base p x y right down =
    let all : ((may_move instance instance.scale.x_ppem v.x_placement v.x_placement_device
    || may_move instance instance.scale.y_ppem v.y_placement v.y_placement_device)
    || may_move instance instance.scale.x_ppem v.x_advance v.x_advance_device) ≡ false = none in
    let both = neither _ _ all in
    let placed = neither _ _ both.0 in
    rw (
      moved_x-kept base instance v.x_placement v.x_placement_device p.x_offset x placed.0,
      moved_y-kept base instance v.y_placement v.y_placement_device p.y_offset y placed.1,
      moved_x-kept base instance v.x_advance v.x_advance_device p.x_advance right both.1,
    ) refl
no_effect instance false v none base p x y right down =
    let all : ((may_move instance instance.scale.x_ppem v.x_placement v.x_placement_device
    || may_move instance instance.scale.y_ppem v.y_placement v.y_placement_device)
    || may_move instance instance.scale.y_ppem v.y_advance v.y_advance_device) ≡ false = none in
    let both = neither _ _ all in
    let placed = neither _ _ both.0 in
    rw (
      moved_x-kept base instance v.x_placement v.x_placement_device p.x_offset x placed.0,
      moved_y-kept base instance v.y_placement v.y_placement_device p.y_offset y placed.1,
      moved_back-kept base instance v.y_advance v.y_advance_device p.y_advance down both.1,
    ) refl
