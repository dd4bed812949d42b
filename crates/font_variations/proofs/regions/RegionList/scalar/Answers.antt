use Rattle.std.proofs.Common.{◌≡◌, ◌<◌, sym, true, refl, arith}
use Rattle.std.proofs.lemmas.Grind.{common_steps}
use Rattle.std.specs.Float.{float_zero}
use Rattle.std.specs.Float.Ieee.{eq}
use Rattle.font_variations.specs.Regions.{factor, has_zero}
use Rattle.font_variations.proofs.FloatLemmas.{of_bits_zero}
use Rattle.font_variations.proofs.RegionLemmas.{has_zero_from, region_scalar-nothing}
use Rattle.font_variations.proofs.regions.RegionList.scalar.Goals as goal

pub returns-then-factor : goal.returns-then-factor
returns-then-factor c =
    let list = c.args.self.now.table.now in
    let f = factor list c.args.region c.args.coordinates.now in
    let axis = c.loop-axis.axis in
    let below : axis < c.unwrap_or-axes.result = omega arith in
    let zero = of_bits_zero 0 refl in
    let nothing : eq (f axis) float_zero ≡ true = rw zero at (rw c.factor-factor.ensures at c.if-factor.true) in
    let stays : has_zero f c.unwrap_or-axes.result ≡ true = has_zero_from f c.unwrap_or-axes.result axis below nothing in
    rw zero (sym (region_scalar-nothing list c.args.region c.args.coordinates.now (grind (arith, common_steps))))
