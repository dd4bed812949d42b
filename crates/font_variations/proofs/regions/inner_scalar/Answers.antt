use Rattle.std.proofs.Common.{◌≡◌, true, false, refl, arith}
use Rattle.std.specs.Prelude.{int_lt, ◌-ℤ◌}
use Rattle.std.proofs.lemmas.Int.{to_z-of_z}
use Rattle.font_variations.specs.Regions.{float, is_outside}
use Rattle.font_variations.proofs.RegionLemmas.{inner_scalar-rises, inner_scalar-falls}
use Rattle.font_variations.proofs.regions.inner_scalar.Goals as goal

pub returns-then-coordinate-peak : goal.returns-then-coordinate-peak
returns-then-coordinate-peak c =
    let inside : is_outside c.args.start c.args.end c.args.coordinate ≡ false = grind (arith, to_z-of_z) in
    let before : int_lt c.args.coordinate c.args.peak ≡ true = grind (arith, to_z-of_z) in
    let part : c.float.result ≡ float (c.args.coordinate -ℤ c.args.start) = grind (arith, to_z-of_z) in
    let whole : c.float-then-coordinate-peak.result ≡ float (c.args.peak -ℤ c.args.start) = grind (arith, to_z-of_z) in
    rw (inner_scalar-rises c.args.start c.args.peak c.args.end c.args.coordinate inside before, part, whole) refl

pub returns-else-coordinate-peak : goal.returns-else-coordinate-peak
returns-else-coordinate-peak c = grind (arith, to_z-of_z, inner_scalar-falls)
