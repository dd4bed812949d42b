use Rattle.std.proofs.Common.{◌≡◌, false, true, refl, to_z, of_z, w32, arith}
use Rattle.std.specs.Prelude.{nat_eq, ◌-◌}
use Rattle.std.proofs.lemmas.Grind.{common_steps}
use Rattle.std.proofs.lemmas.Int.{to_z-of_z}
use Rattle.font_variations.specs.SegmentMaps.{from_at, in_segment, is_up_to_first, pair_count, segment_of, shifted, to_at}
use Rattle.font_variations.proofs.SegmentLemmas.{mapped_first, mapped_behind}
use Rattle.font_variations.proofs.segment_maps.mapped.Goals as goal

pub returns-then-is_up_to_first : goal.returns-then-is_up_to_first
returns-then-is_up_to_first c =
    let map = c.args.map.now in
    let at = c.args.coordinate in
    let some : nat_eq (pair_count map) 0 ≡ false = grind (arith, common_steps) in
    let first : is_up_to_first map at ≡ true = grind (arith, to_z-of_z) in
    let is : to_z w32 (of_z w32 c.shifted.result) ≡ shifted at (from_at map 0) (to_at map 0) = grind (arith, to_z-of_z) in
    rw (mapped_first map at some first, is) refl

pub returns : goal.returns
returns c =
    let map = c.args.map.now in
    let at = c.args.coordinate in
    let some : nat_eq (pair_count map) 0 ≡ false = grind (arith, common_steps) in
    let behind : is_up_to_first map at ≡ false = grind (arith, to_z-of_z) in
    let is : to_z w32 (of_z w32 c.in_segment.result) ≡ in_segment map (segment_of map (pair_count map - 1) at) at = grind (arith, to_z-of_z) in
    rw (mapped_behind map at some behind, is) refl
