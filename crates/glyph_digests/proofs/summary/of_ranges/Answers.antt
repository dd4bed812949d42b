use Rattle.std.proofs.Common.{◌≡◌, ◌*◌, ◌<◌, ◌≤◌, ◌-◌, ◌/◌, ◌∙◌, true, length, refl, arith, inl, inr}
use Rattle.std.proofs.lemmas.Bool.{cases_lt}
use Rattle.font_tables.proofs.ChunkLemmas.{length-cut, rows_cut_16}
use Rattle.glyph_digests.proofs.DigestLemmas.{number_16-read, range_has}
use Rattle.glyph_digests.proofs.summary.of_ranges.Goals as goal

pub loop-range-preserved : goal.loop-range-preserved
loop-range-preserved g c = λ row less first last is_first is_last glyph least most.
    elim (cases_lt row c.loop-range.range-index) [
      | inl before ↦
          c.add_row.ensures.kept glyph (c.loop-range.invariant row before first last is_first is_last glyph least most)
      | inr after ↦
          let here : row ≡ c.loop-range.range-index = omega arith in
          let inside : c.loop-range.range-index < length c.as_chunks.result.0.now = omega arith in
          c.add_row.ensures.added first last (number_16-read _ row _ 0 first _ here inside is_first)
          (number_16-read _ row _ 2 last _ here inside is_last) glyph least most
    ]

pub returns : goal.returns
returns g c = λ glyph some.
    let most : 6 * c.row_count.result ≤ length c.args.table.now - 4 = omega (arith, c.row_count.ensures.is) in
    let whole = length-cut 4 (6 * c.row_count.result) c.args.table.now c.part.result.now c.part.ensures most in
    let long : length c.part.result.now / 6 ≡ c.row_count.result = omega (arith, whole) in
    let firsts =
    rows_cut_16 4 6 c.row_count.result _ 0 4 c.args.table.now c.part.result.now _ c.part.ensures c.as_chunks.ensures.front long most
    (λ row less. omega arith) (omega arith) refl in
    let lasts =
    rows_cut_16 4 6 c.row_count.result _ 2 6 c.args.table.now c.part.result.now _ c.part.ensures c.as_chunks.ensures.front long most
    (λ row less. omega arith) (omega arith) refl in
    range_has c.args.table.now glyph (λ x. g.S.Summary.has c.loop-range.summary x ≡ true)
    (λ row less first last is_first is_last.
    let inside : row < c.row_count.result = omega (arith, less, c.row_count.ensures.is) in
    c.loop-range.invariant row (omega arith) first last (firsts.same row inside ∙ is_first) (lasts.same row inside ∙ is_last)) some
