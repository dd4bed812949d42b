use Rattle.std.proofs.Common.{◌≡◌, ◌*◌, ◌<◌, ◌≤◌, ◌-◌, ◌/◌, ◌∙◌, Some, true, length, refl, sym, subst, arith, inl, inr}
use Rattle.std.proofs.lemmas.Bool.{cases_lt}
use Rattle.std.proofs.lemmas.Grind.{common_steps}
use Rattle.font_tables.proofs.ChunkLemmas.{length-cut, rows_cut_16}
use Rattle.glyph_digests.specs.FirstGlyphs.{may_have_first}
use Rattle.glyph_digests.proofs.DigestLemmas.{list_has, number_16-read}
use Rattle.glyph_digests.proofs.EarlyLemmas.{early, option_and_then-read}
use Rattle.glyph_digests.proofs.FirstGlyphsLemmas.{may_have_first-past}
use Rattle.glyph_digests.proofs.first_glyphs.firsts_of_list.Goals.{in-Some+else-glyph-ge-COUNT, in_default}
use Rattle.glyph_digests.proofs.first_glyphs.firsts_of_list.Goals as goal

pub loop-glyph-preserved : goal.loop-glyph-preserved
loop-glyph-preserved c = λ row less glyph is.
    let inside : c.loop-glyph.glyph-index < length c.as_chunks.result.0.now = omega arith in
    elim c.match-u16_at.branch [
      | in-Some+else-glyph-ge-COUNT w ↦ elim (cases_lt row c.loop-glyph.glyph-index) [
        | inl before ↦ rw w.firsts-is (w.add_glyph.ensures.kept glyph (c.loop-glyph.invariant row before glyph is))
        | inr after ↦
            let here : row ≡ c.loop-glyph.glyph-index = omega (arith, less, after) in
            let read : Some w.in-Some.glyph ≡ Some glyph =
            sym w.in-Some.is ∙ c.u16_at.ensures ∙ number_16-read _ row _ 0 glyph _ here inside is in
            let same : w.from-glyph.result ≡ glyph = grind (arith, common_steps, read, w.from-glyph.ensures) in
            rw w.firsts-is (subst (λ g. may_have_first w.add_glyph.new.self g ≡ true) same w.add_glyph.ensures.added)
      ]
      | in_default w ↦ elim (cases_lt row c.loop-glyph.glyph-index) [
        | inl before ↦ rw w.firsts-is (c.loop-glyph.invariant row before glyph is)
        | inr after ↦
            let here : row ≡ c.loop-glyph.glyph-index = omega (arith, less, after) in
            let read = c.u16_at.ensures ∙ number_16-read _ row _ 0 glyph _ here inside is in
            absurd (grind (arith, common_steps, read))
      ]
    ]

pub returns-then-glyph-ge-COUNT : goal.returns-then-glyph-ge-COUNT
returns-then-glyph-ge-COUNT c = λ glyph some.
    let most : 2 * c.row_count.result ≤ length c.args.table.now - 4 = omega (arith, c.row_count.ensures.is) in
    let whole = length-cut 4 (2 * c.row_count.result) c.args.table.now c.part.result.now c.part.ensures most in
    let long : length c.part.result.now / 2 ≡ c.row_count.result = omega (arith, whole) in
    let rows =
    rows_cut_16 4 2 c.row_count.result _ 0 4 c.args.table.now c.part.result.now _ c.part.ensures c.as_chunks.ensures.front long most
    (λ row less. omega arith) (omega arith) refl in
    let inside : c.loop-glyph.glyph-index < length c.as_chunks.result.0.now = omega arith in
    let listed : c.loop-glyph.glyph-index < c.row_count.result = omega (arith, long) in
    let there =
    sym (rows.same c.loop-glyph.glyph-index listed) ∙ option_and_then-read _ c.loop-glyph.glyph-index _ inside ∙ sym c.u16_at.ensures ∙ c.in-Some.is in
    elim (cases_lt glyph 256) [
      | inl low ↦
          early c.args.table.now glyph c.loop-glyph.glyph-index c.in-Some.glyph (λ x. may_have_first c.loop-glyph.firsts x ≡ true) there
          (omega (arith, c.if-glyph-ge-COUNT.true, c.from-glyph.ensures)) low
          (λ row below within x is.
          c.loop-glyph.invariant row below x (rows.same row (omega (arith, within, c.row_count.ensures.is)) ∙ is)) some
      | inr from ↦ may_have_first-past c.loop-glyph.firsts glyph from
    ]

pub returns : goal.returns
returns c = λ glyph some.
    let most : 2 * c.row_count.result ≤ length c.args.table.now - 4 = omega (arith, c.row_count.ensures.is) in
    let whole = length-cut 4 (2 * c.row_count.result) c.args.table.now c.part.result.now c.part.ensures most in
    let long : length c.part.result.now / 2 ≡ c.row_count.result = omega (arith, whole) in
    let rows =
    rows_cut_16 4 2 c.row_count.result _ 0 4 c.args.table.now c.part.result.now _ c.part.ensures c.as_chunks.ensures.front long most
    (λ row less. omega arith) (omega arith) refl in
    list_has c.args.table.now glyph (λ x. may_have_first c.loop-glyph.firsts x ≡ true)
    (λ row less x is.
    let inside : row < c.row_count.result = omega (arith, less, c.row_count.ensures.is) in
    c.loop-glyph.invariant row (omega arith) x (rows.same row inside ∙ is)) some
