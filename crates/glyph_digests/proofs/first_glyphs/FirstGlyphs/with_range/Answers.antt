use Rattle.std.proofs.Common.{◌≡◌, ◌<◌, ◌/◌, arith, length}
use Rattle.glyph_digests.proofs.FirstGlyphsLemmas.{may_have_first-in_word, may_have_first-kept, may_have_first-words, may_have_first-written}
use Rattle.glyph_digests.proofs.first_glyphs.FirstGlyphs.with_range.Goals as goal

pub returns-clause-added : goal.returns-clause-added
returns-clause-added c = λ g least most.
    may_have_first-words _ _ _ _ g
    (λ at. c.with_rows_from.ensures.added g (omega arith) (omega (arith, at)) least most)
    (λ at. c.with_rows_from-2.ensures.added g (omega (arith, at)) (omega (arith, at)) least most)
    (λ at. c.with_rows_from-3.ensures.added g (omega (arith, at)) (omega (arith, at)) least most)
    (λ at. c.with_rows_from-4.ensures.added g (omega (arith, at)) (omega (arith, at)) least most)

pub returns-clause-kept : goal.returns-clause-kept
returns-clause-kept c = λ g.
    may_have_first-kept c.args.self _ _ _ _ g c.with_rows_from.ensures.kept c.with_rows_from-2.ensures.kept
    c.with_rows_from-3.ensures.kept c.with_rows_from-4.ensures.kept

pub returns-then-first-last-clause-added : goal.returns-then-first-last-clause-added
returns-then-first-last-clause-added c = λ g least most.
    let long : length c.args.self.words ≡ 4 = omega arith in
    let here : g / 64 ≡ c.args.first / 64 = omega (arith, c.if-first-last.true) in
    may_have_first-in_word c.args.self.words _ _ g long here (c.with_rows.ensures.added g least most)

pub returns-then-first-last-clause-kept : goal.returns-then-first-last-clause-kept
returns-then-first-last-clause-kept c = λ g.
    let long : length c.args.self.words ≡ 4 = omega arith in
    let within : c.args.first / 64 < 4 = omega arith in
    may_have_first-written c.args.self _ _ g long within c.with_rows.ensures.kept
