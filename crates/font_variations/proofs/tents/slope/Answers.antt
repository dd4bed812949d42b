use Rattle.std.proofs.Common.{◌≡◌, true, false, refl, arith}
use Rattle.std.specs.Prelude.{int_lt, ◌-ℤ◌}
use Rattle.std.proofs.lemmas.Int.{to_z-of_z}
use Rattle.font_variations.specs.Tents.{double}
use Rattle.font_variations.proofs.TentLemmas.{slope_rises, slope_falls}
use Rattle.font_variations.proofs.tents.slope.Goals as goal

pub returns-then-coordinate-peak : goal.returns-then-coordinate-peak
returns-then-coordinate-peak c =
    let before : int_lt c.args.coordinate c.args.peak ≡ true = grind (arith, to_z-of_z) in
    let part : c.double.result ≡ double (c.args.coordinate -ℤ c.args.start) = grind (arith, to_z-of_z) in
    let whole : c.double-then-coordinate-peak.result ≡ double (c.args.peak -ℤ c.args.start) = grind (arith, to_z-of_z) in
    rw (slope_rises c.args.start c.args.peak c.args.end c.args.coordinate before, part, whole) refl

pub returns-else-coordinate-peak : goal.returns-else-coordinate-peak
returns-else-coordinate-peak c =
    let behind : int_lt c.args.coordinate c.args.peak ≡ false = grind (arith, to_z-of_z) in
    let part : c.double-else-coordinate-peak.result ≡ double (c.args.end -ℤ c.args.coordinate) = grind (arith, to_z-of_z) in
    let whole : c.double-else-coordinate-peak-2.result ≡ double (c.args.end -ℤ c.args.peak) = grind (arith, to_z-of_z) in
    rw (slope_falls c.args.start c.args.peak c.args.end c.args.coordinate behind, part, whole) refl
