use Rattle.std.proofs.Common.{◌≡◌, false}
use Rattle.std.specs.Option.{option_copied}
use Rattle.font_variations.specs.Regions.{has_zero}
use Rattle.font_variations.specs.Tents.{factor, product}
use Rattle.font_variations.proofs.tents.Tent.scalar.Given as goal

-- no axis so far leaves nothing, and the scalar is the product of what they leave
abbrev pub invariant-loop-axis : goal.invariant-loop-axis
invariant-loop-axis l = record {
  some : has_zero (factor l.self.peaks.now (option_copied l.self.ends) l.self.axis_count l.coordinates) l.axis ≡ false;
  so_far : l.scalar ≡ product (factor l.self.peaks.now (option_copied l.self.ends) l.self.axis_count l.coordinates) l.axis;
}
