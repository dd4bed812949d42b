use Rattle.font_tables.proofs.RowLemmas.{NoneBelow, first_below-some, first_below-none}
use Rattle.std.proofs.Common.{◌≡◌, ◌<◌, refl, sym, true, w32, arith, ◌∙◌}
use Rattle.std.proofs.lemmas.Int.{to_z-of_z}
use Rattle.font_variations.specs.SegmentMaps.{is_up_to}
use Rattle.font_variations.proofs.segment_maps.segment_of.Goals as goal

pub returns-then-is_up_to-clause-is : goal.returns-then-is_up_to-clause-is
returns-then-is_up_to-clause-is c =
    let test = is_up_to c.args.map.now c.args.coordinate in
    let same = to_z-of_z w32 c.args.coordinate c.ranges.coordinate in
    let inside : c.loop-number.number < c.args.last = omega arith in
    let passes : test c.loop-number.number ≡ true = rw same at (sym c.is_up_to.ensures ∙ c.if-is_up_to.true) in
    let none : NoneBelow test c.loop-number.number = rw same at c.loop-number.invariant in
    rw (first_below-some test c.args.last c.loop-number.number inside passes none) refl

pub returns-clause-is : goal.returns-clause-is
returns-clause-is c =
    let test = is_up_to c.args.map.now c.args.coordinate in
    let same = to_z-of_z w32 c.args.coordinate c.ranges.coordinate in
    let end : c.loop-number.number ≡ c.args.last = omega arith in
    let none : NoneBelow test c.args.last = rw (same, end) at c.loop-number.invariant in
    rw (first_below-none test c.args.last none) refl
