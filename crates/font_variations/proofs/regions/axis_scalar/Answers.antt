use Rattle.std.proofs.Common.{◌≡◌, false, refl, arith}
use Rattle.std.specs.Prelude.{pos}
use Rattle.std.specs.Ordering.{int_eq}
use Rattle.std.proofs.lemmas.Int.{to_z-of_z}
use Rattle.std.proofs.lemmas.Float.{of_bits-one_f32}
use Rattle.font_variations.specs.Regions.{inner_scalar, is_at_peak, is_disordered}
use Rattle.font_variations.proofs.RegionLemmas.{axis_scalar-inner, axis_scalar-disordered, not_default}
use Rattle.font_variations.proofs.regions.axis_scalar.Goals as goal

pub returns-then-is_disordered : goal.returns-then-is_disordered
returns-then-is_disordered c = grind (arith, to_z-of_z, of_bits-one_f32, axis_scalar-disordered)

pub returns-else-is_disordered : goal.returns-else-is_disordered
returns-else-is_disordered c =
    let other : is_at_peak c.args.peak c.args.coordinate ≡ false = grind (arith, to_z-of_z) in
    let some : int_eq c.args.coordinate (pos 0) ≡ false = not_default c.args.coordinate c.if-coordinate-eq0.false in
    let ordered : is_disordered c.args.start c.args.peak c.args.end ≡ false = grind (arith, to_z-of_z) in
    let inner : c.inner_scalar.result ≡ inner_scalar c.args.start c.args.peak c.args.end c.args.coordinate = grind (arith, to_z-of_z) in
    rw (axis_scalar-inner c.args.start c.args.peak c.args.end c.args.coordinate other some ordered, inner) refl
