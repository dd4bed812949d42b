use Rattle.std.proofs.Common.{sym, ◌∙◌}
use Rattle.glyph_digests.proofs.DigestLemmas.{covered_list}
use Rattle.glyph_digests.proofs.first_glyphs.firsts_of.Goals as goal

pub returns-then-format_of-eq1 : goal.returns-then-format_of-eq1
returns-then-format_of-eq1 c = λ glyph some.
    c.firsts_of_list.ensures glyph (covered_list c.args.coverage.now.table.now glyph (sym c.format_of.ensures ∙ c.if-format_of-eq1.true) some)
