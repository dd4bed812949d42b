use Rattle.std.proofs.Common.{◌≡◌, ◌*◌, ◌<◌, ◌≤◌, ◌-◌, ◌/◌, ◌∙◌, true, length, refl, arith}
use Rattle.font_tables.proofs.ChunkLemmas.{length-cut, rows_cut_16}
use Rattle.glyph_digests.proofs.DigestLemmas.{list_has}
use Rattle.glyph_digests.proofs.summary.of_list.Goals as goal

pub returns : goal.returns
returns g c = λ glyph some.
    let most : 2 * c.row_count.result ≤ length c.args.table.now - 4 = omega (arith, c.row_count.ensures.is) in
    let whole = length-cut 4 (2 * c.row_count.result) c.args.table.now c.part.result.now c.part.ensures most in
    let long : length c.part.result.now / 2 ≡ c.row_count.result = omega (arith, whole) in
    let rows =
    rows_cut_16 4 2 c.row_count.result _ 0 4 c.args.table.now c.part.result.now _ c.part.ensures c.as_chunks.ensures.front long most
    (λ row less. omega arith) (omega arith) refl in
    list_has c.args.table.now glyph (λ x. g.S.Summary.has c.loop-glyph.summary x ≡ true)
    (λ row less x is.
    let inside : row < c.row_count.result = omega (arith, less, c.row_count.ensures.is) in
    c.loop-glyph.invariant row (omega arith) x (rows.same row inside ∙ is)) some
