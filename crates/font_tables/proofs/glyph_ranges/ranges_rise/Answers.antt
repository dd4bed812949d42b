use Rattle.std.proofs.Common.{◌≡◌, ◌*◌, ◌≤◌, ◌-◌, ◌/◌, false, length, refl, arith, subst}
use Rattle.std.proofs.lemmas.Grind.{common_steps}
use Rattle.font_tables.specs.GlyphRanges.{range_last}
use Rattle.std.specs.Prelude.{option_and_then, slice_get}
use Rattle.font_tables.specs.Bytes.{number_16}
use Rattle.font_tables.specs.Rows.{Rises}
use Rattle.font_tables.proofs.ChunkLemmas.{length-cut, rises-back, rows_cut_16}
use Rattle.font_tables.proofs.glyph_ranges.ranges_rise.Goals as goal

pub returns : goal.returns
returns c = λ rising.
    let rises : c.loop-range.falls ≡ false = grind (arith, common_steps) in
    let most : 6 * c.from.result ≤ length c.args.table.now - 4 = omega (arith, c.requires, c.from.ensures) in
    let whole = length-cut 4 (6 * c.from.result) c.args.table.now c.part.result.now c.part.ensures most in
    let long : length c.part.result.now / 6 ≡ c.from.result = omega (arith, whole) in
    let rows =
    rows_cut_16 4 6 c.from.result _ 2 6 c.args.table.now c.part.result.now _ c.part.ensures c.as_chunks.ensures.front long most
    (λ row less. omega arith) (omega arith) refl in
    let so = c.loop-range.invariant rises in
    let end : c.loop-range.range-index ≡ c.from.result = omega arith in
    let cut =
    subst (λ n. Rises (λ row. option_and_then (λ chunk. number_16 chunk 2) (slice_get c.as_chunks.result.0.now row)) n) end so.rise in
    subst (λ n. Rises (range_last c.args.table.now) n) c.from.ensures (rises-back _ _ _ rows cut)
