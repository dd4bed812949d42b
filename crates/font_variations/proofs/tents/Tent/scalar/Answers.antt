use Rattle.std.proofs.Common.{◌≡◌, ◌<◌, sym, true, refl, arith}
use Rattle.std.specs.Float.{float_zero}
use Rattle.std.specs.Float.Ieee.{eq}
use Rattle.std.specs.Option.{option_copied}
use Rattle.font_variations.proofs.RegionLemmas.{has_zero_from}
use Rattle.font_variations.specs.Regions.{has_zero}
use Rattle.font_variations.specs.Tents.{factor}
use Rattle.font_variations.proofs.TentLemmas.{of_bits_zero_64, of_bits_zero_32, scalar_nothing}
use Rattle.font_variations.proofs.tents.Tent.scalar.Goals as goal

pub returns-then-factor : goal.returns-then-factor
returns-then-factor c =
    let tent = c.args.self.now in
    let f = factor tent.peaks.now (option_copied tent.ends) tent.axis_count c.args.coordinates.now in
    let axis = c.loop-axis.axis in
    let below : axis < tent.axis_count = omega arith in
    let nothing : eq (f axis) float_zero ≡ true = rw (of_bits_zero_64 0 refl) at (rw c.factor-factor.ensures at c.if-factor.true) in
    let stays : has_zero f tent.axis_count ≡ true = has_zero_from f tent.axis_count axis below nothing in
    rw (of_bits_zero_32 0 refl) (sym (scalar_nothing tent.peaks.now (option_copied tent.ends) tent.axis_count c.args.coordinates.now stays))
