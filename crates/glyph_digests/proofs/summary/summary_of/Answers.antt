use Rattle.std.proofs.Common.{sym, ◌∙◌}
use Rattle.glyph_digests.proofs.DigestLemmas.{covered_list, covered_ranges, covered_nowhere}
use Rattle.glyph_digests.proofs.summary.summary_of.Goals as goal

pub returns-then-format-eq1 : goal.returns-then-format-eq1
returns-then-format-eq1 g c = λ glyph some.
    c.of_list.ensures glyph (covered_list c.args.coverage.now.table.now glyph (sym c.format_of-format.ensures ∙ c.if-format-eq1.true) some)

pub returns-then-format-eq2 : goal.returns-then-format-eq2
returns-then-format-eq2 g c = λ glyph some.
    c.of_ranges.ensures glyph (covered_ranges c.args.coverage.now.table.now glyph (sym c.format_of-format.ensures ∙ c.if-format-eq2.true) some)

pub returns-else-format-eq2 : goal.returns-else-format-eq2
returns-else-format-eq2 g c = λ glyph some.
    absurd (covered_nowhere c.args.coverage.now.table.now glyph (λ is. c.if-format-eq1.false (c.format_of-format.ensures ∙ is))
    (λ is. c.if-format-eq2.false (c.format_of-format.ensures ∙ is)) some)
