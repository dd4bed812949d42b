use Rattle.std.proofs.Common.{◌≡◌, true, false, refl, arith}
use Rattle.std.proofs.lemmas.Int.{to_z-of_z}
use Rattle.font_variations.specs.Regions.{is_disordered}
use Rattle.font_variations.specs.Tents.{is_outside, slope}
use Rattle.font_variations.proofs.TentLemmas.{factor_between-nothing, factor_between-slope, of_bits_zero_64}
use Rattle.font_variations.proofs.tents.factor_between.Goals as goal

pub returns-then-is_outside : goal.returns-then-is_outside
returns-then-is_outside c =
    let ordered : is_disordered c.args.start c.args.peak c.args.end ≡ false = grind (arith, to_z-of_z) in
    let outside : is_outside c.args.start c.args.end c.args.coordinate ≡ true = grind (arith, to_z-of_z) in
    rw (
      factor_between-nothing c.args.start c.args.peak c.args.end c.args.coordinate ordered outside,
      of_bits_zero_64
          0 refl,
    ) refl

pub returns-else-is_outside : goal.returns-else-is_outside
returns-else-is_outside c =
    let ordered : is_disordered c.args.start c.args.peak c.args.end ≡ false = grind (arith, to_z-of_z) in
    let inside : is_outside c.args.start c.args.end c.args.coordinate ≡ false = grind (arith, to_z-of_z) in
    let within : c.slope.result ≡ slope c.args.start c.args.peak c.args.end c.args.coordinate = grind (arith, to_z-of_z) in
    rw (factor_between-slope c.args.start c.args.peak c.args.end c.args.coordinate ordered inside, within) refl
