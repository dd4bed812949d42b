-- Values of 0, and records of an advance alone.
use Rattle.std.proofs.Common.{◌≡◌, ℕ, ℤ, pos, List, refl, arith, ap, sym, subst, ◌∙◌, ◌+ℤ◌, ◌*ℤ◌}
use Rattle.std.proofs.lemmas.Int.{ints, int_wrap_fits, wrapping_add_is, SFits-int_wrap}
use Rattle.std.specs.Prelude.{FitsSigned, true}
use Rattle.std.specs.Int.{int_wrap, int_wrapping_add, w32}
use Rattle.rb_glyph.specs.declared.position.GlyphPosition.{GlyphPosition}
use Rattle.font_tables.specs.Scale.{em_scale, multiplier}
use Rattle.ot_gpos_tables.specs.Corrections.{x_correction, y_correction, variation_index}
use Rattle.ot_gpos_tables.specs.Values.{across, fields, moved, moved_x, moved_y, no_values, plus}
use Rattle.ot_gpos_tables.specs.declared.instance.Instance.{Instance}

mul-zero : (z : ℤ) → pos 0 *ℤ z ≡ pos 0
mul-zero z = grind (arith, ints)

add-zero : (z : ℤ) → z +ℤ pos 0 ≡ z
add-zero z = grind (arith, ints)

-- nothing is as long as nothing
pub em_scale-zero : (size : ℤ) (units : ℕ) → em_scale (pos 0) size units ≡ pos 0
em_scale-zero size units = rw (mul-zero (multiplier size units)) refl

pub no_fit : FitsSigned w32 (pos 0)
no_fit = grind (arith, ints)

int_wrapping_add-zero : (n : ℤ) → FitsSigned w32 n → int_wrapping_add w32 n (pos 0) ≡ n
int_wrapping_add-zero n fits =
    wrapping_add_is w32 n (pos 0) fits no_fit ∙ ap (int_wrap w32) (add-zero n) ∙ int_wrap_fits w32 n fits

pub plus_nothing : (n : ℤ) → FitsSigned w32 n → plus n (pos 0) (pos 0) ≡ n
plus_nothing n fits = rw (int_wrapping_add-zero n fits) (int_wrapping_add-zero n fits)

pub x_correction-none : (base : List ℕ) (instance : Instance) → x_correction base 0 instance ≡ pos 0
unfolding x_correction variation_index
x_correction-none base instance = refl

pub y_correction-none : (base : List ℕ) (instance : Instance) → y_correction base 0 instance ≡ pos 0
unfolding y_correction variation_index
y_correction-none base instance = refl

-- a number that is moved by nothing stays
pub x_stays : (base : List ℕ) (instance : Instance) (value : ℤ) (device : ℕ) (n : ℤ) → FitsSigned w32 n → value ≡ pos 0
    → device ≡ 0 → n ≡ moved_x base instance value device n
unfolding moved_x
x_stays base instance value device n fits unmoved_value no_device =
    rw (
      unmoved_value,
      no_device,
      em_scale-zero instance.scale.x instance.scale.units_per_em,
      x_correction-none base
          instance,
    ) (sym (plus_nothing n fits))

pub y_stays : (base : List ℕ) (instance : Instance) (value : ℤ) (device : ℕ) (n : ℤ) → FitsSigned w32 n → value ≡ pos 0
    → device ≡ 0 → n ≡ moved_y base instance value device n
unfolding moved_y
y_stays base instance value device n fits unmoved_value no_device =
    rw (
      unmoved_value,
      no_device,
      em_scale-zero instance.scale.y instance.scale.units_per_em,
      y_correction-none base
          instance,
    ) (sym (plus_nothing n fits))

pub ruleset unmoved = (x_stays, y_stays)

-- a format that names nothing
pub no_values_are_fields : (table : List ℕ) (format at : ℕ) → format ≡ 0 → no_values ≡ fields table format at
unfolding fields
no_values_are_fields table format at none = rw none refl

-- an advance that is moved by no device table
int_wrapping_add-moved_x : (base : List ℕ) (instance : Instance) (value n : ℤ) → FitsSigned w32 n
    → FitsSigned w32 (em_scale value instance.scale.x instance.scale.units_per_em)
    → int_wrapping_add w32 n (em_scale value instance.scale.x instance.scale.units_per_em) ≡ moved_x base instance value 0 n
unfolding moved_x
int_wrapping_add-moved_x base instance value n fits length_fits =
    let length = em_scale value instance.scale.x instance.scale.units_per_em in
    let sum_fits : FitsSigned w32 (int_wrapping_add w32 n length) =
    subst (FitsSigned w32) (sym (wrapping_add_is w32 n length fits length_fits)) (SFits-int_wrap w32 (n +ℤ length)) in
    rw (x_correction-none base instance) (sym (int_wrapping_add-zero (int_wrapping_add w32 n length) sum_fits))

-- a position that a record of an advance alone moves
pub moved-across : (base : List ℕ) (instance : Instance) (advance length : ℤ) (p : GlyphPosition)
    → FitsSigned w32 p.x_offset
    → FitsSigned w32 p.y_offset → FitsSigned w32 p.x_advance → FitsSigned w32 length
    → length ≡ em_scale advance instance.scale.x instance.scale.units_per_em
    → (record p { x_advance = int_wrapping_add w32 p.x_advance length }) ≡ moved base instance true (across advance) p
moved-across base instance advance length p x y n fits is =
    let scaled_fits : FitsSigned w32 (em_scale advance instance.scale.x instance.scale.units_per_em) =
    subst (FitsSigned w32) is fits in
    rw (
      is,
      sym (x_stays base instance (pos 0) 0 p.x_offset x refl refl),
      sym (y_stays base instance (pos 0) 0 p.y_offset y refl refl),
      sym (int_wrapping_add-moved_x base instance advance p.x_advance n scaled_fits),
    ) refl
