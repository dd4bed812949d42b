use Rattle.std.proofs.Common.{◌≡◌, false}
use Rattle.font_variations.specs.Regions.{factor, has_zero, product}
use Rattle.font_variations.proofs.regions.RegionList.scalar.Given as goal

-- no axis so far leaves nothing, and the scalar is the product of what they leave
abbrev pub invariant-loop-axis : goal.invariant-loop-axis
invariant-loop-axis l = record {
  some : has_zero (factor l.self.table.now l.region l.coordinates) l.axis ≡ false;
  so_far : l.scalar ≡ product (factor l.self.table.now l.region l.coordinates) l.axis;
}
