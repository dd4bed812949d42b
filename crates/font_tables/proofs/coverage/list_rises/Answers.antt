use Rattle.std.proofs.Common.{◌≡◌, ◌*◌, ◌≤◌, ◌-◌, ◌/◌, false, length, refl, arith, subst}
use Rattle.std.proofs.lemmas.Grind.{common_steps}
use Rattle.font_tables.specs.Coverage.{listed_glyph}
use Rattle.std.specs.Prelude.{option_and_then, slice_get}
use Rattle.font_tables.specs.Bytes.{number_16}
use Rattle.font_tables.specs.Rows.{Rises}
use Rattle.font_tables.proofs.ChunkLemmas.{length-cut, rises-back, rows_cut_16}
use Rattle.font_tables.proofs.coverage.list_rises.Goals as goal

pub returns : goal.returns
returns c = λ rising.
    let rises : c.loop-glyph.falls ≡ false = grind (arith, common_steps) in
    let most : 2 * c.from.result ≤ length c.args.table.now - 4 = omega (arith, c.requires, c.from.ensures) in
    let whole = length-cut 4 (2 * c.from.result) c.args.table.now c.part.result.now c.part.ensures most in
    let long : length c.part.result.now / 2 ≡ c.from.result = omega (arith, whole) in
    let rows =
    rows_cut_16 4 2 c.from.result _ 0 4 c.args.table.now c.part.result.now _ c.part.ensures c.as_chunks.ensures.front long most
    (λ row less. omega arith) (omega arith) refl in
    let so = c.loop-glyph.invariant rises in
    let end : c.loop-glyph.glyph-index ≡ c.from.result = omega arith in
    let cut =
    subst (λ n. Rises (λ row. option_and_then (λ chunk. number_16 chunk 0) (slice_get c.as_chunks.result.0.now row)) n) end so.rise in
    subst (λ n. Rises (listed_glyph c.args.table.now) n) c.from.ensures (rises-back _ _ _ rows cut)
