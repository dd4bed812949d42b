use Rattle.std.proofs.Common.{◌≡◌, arith, length}
use Rattle.glyph_digests.proofs.FirstGlyphsLemmas.{may_have_first-in_word, may_have_first-past, may_have_first-written}
use Rattle.glyph_digests.proofs.first_glyphs.FirstGlyphsSummary.add_glyph.Goals as goal

pub returns-then-glyph-lt64-clause-added : goal.returns-then-glyph-lt64-clause-added
returns-then-glyph-lt64-clause-added c =
    let long : length c.args.self.now.words ≡ 4 = omega arith in
    may_have_first-in_word c.args.self.now.words 0 _ c.args.glyph long (omega arith) c.with_row.ensures.added

pub returns-then-glyph-lt64-clause-kept : goal.returns-then-glyph-lt64-clause-kept
returns-then-glyph-lt64-clause-kept c = λ other.
    let long : length c.args.self.now.words ≡ 4 = omega arith in
    may_have_first-written c.args.self.now 0 _ other long (omega arith) c.with_row.ensures.kept

pub returns-else-glyph-lt64-clause-added : goal.returns-else-glyph-lt64-clause-added
returns-else-glyph-lt64-clause-added c =
    let long : length c.args.self.now.words ≡ 4 = omega arith in
    may_have_first-in_word c.args.self.now.words 1 _ c.args.glyph long (omega arith) c.with_row-else-glyph-lt64.ensures.added

pub returns-else-glyph-lt64-clause-kept : goal.returns-else-glyph-lt64-clause-kept
returns-else-glyph-lt64-clause-kept c = λ other.
    let long : length c.args.self.now.words ≡ 4 = omega arith in
    may_have_first-written c.args.self.now 1 _ other long (omega arith) c.with_row-else-glyph-lt64.ensures.kept

pub returns-then-glyph-lt192-clause-added : goal.returns-then-glyph-lt192-clause-added
returns-then-glyph-lt192-clause-added c =
    let long : length c.args.self.now.words ≡ 4 = omega arith in
    may_have_first-in_word c.args.self.now.words 2 _ c.args.glyph long (omega arith) c.with_row-then-glyph-lt192.ensures.added

pub returns-then-glyph-lt192-clause-kept : goal.returns-then-glyph-lt192-clause-kept
returns-then-glyph-lt192-clause-kept c = λ other.
    let long : length c.args.self.now.words ≡ 4 = omega arith in
    may_have_first-written c.args.self.now 2 _ other long (omega arith) c.with_row-then-glyph-lt192.ensures.kept

pub returns-else-glyph-lt192-clause-added : goal.returns-else-glyph-lt192-clause-added
returns-else-glyph-lt192-clause-added c =
    let long : length c.args.self.now.words ≡ 4 = omega arith in
    may_have_first-in_word c.args.self.now.words 3 _ c.args.glyph long (omega arith) c.with_row-else-glyph-lt192.ensures.added

pub returns-else-glyph-lt192-clause-kept : goal.returns-else-glyph-lt192-clause-kept
returns-else-glyph-lt192-clause-kept c = λ other.
    let long : length c.args.self.now.words ≡ 4 = omega arith in
    may_have_first-written c.args.self.now 3 _ other long (omega arith) c.with_row-else-glyph-lt192.ensures.kept

pub returns-then-glyph-ge-COUNT-clause-added : goal.returns-then-glyph-ge-COUNT-clause-added
returns-then-glyph-ge-COUNT-clause-added c = may_have_first-past c.args.self.now c.args.glyph (omega arith)
