use Rattle.std.proofs.Common.{◌≡◌, ℕ, ◌+◌, ◌*◌, refl, arith}
use Rattle.font_cmap.proofs.Lists.{number_16_of_ends, number_16_of_list}
use Rattle.font_cmap.specs.Subtables.{segment_count}
use Rattle.font_cmap.proofs.segment_lists.Segments.new.Goals as goal

pub invariant_of-result : goal.invariant_of-result
invariant_of-result c =
    let bs = c.args.table.now in
    let n : ℕ = c.segment_count-count.result in
    let many : n ≡ segment_count bs = c.segment_count-count.ensures in
    let first : 16 + 2 * n ≡ 16 + 1 * (2 * segment_count bs) = omega (arith, many) in
    let second : 16 + 2 * (2 * n) ≡ 16 + 2 * (2 * segment_count bs) = omega (arith, many) in
    let third : 16 + 3 * (2 * n) ≡ 16 + 3 * (2 * segment_count bs) = omega (arith, many) in
    record {
      counts = many;
      ends = λ row. number_16_of_ends bs _ 14 row c.tail-end_codes.ensures refl;
      starts = λ row. number_16_of_list bs _ (16 + 2 * n) row c.tail-start_codes.ensures 1 first;
      deltas = λ row. number_16_of_list bs _ (16 + 2 * (2 * n)) row c.tail-id_deltas.ensures 2 second;
      offsets = λ place. number_16_of_list bs _ (16 + 3 * (2 * n)) place c.tail-id_range_offsets.ensures 3 third;
    }
