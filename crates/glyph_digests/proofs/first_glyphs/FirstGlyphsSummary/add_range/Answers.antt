use Rattle.std.proofs.Common.{◌≤◌, arith}
use Rattle.std.proofs.lemmas.Grind.{common_steps}
use Rattle.glyph_digests.proofs.FirstGlyphsLemmas.{may_have_first-past}
use Rattle.glyph_digests.proofs.first_glyphs.FirstGlyphsSummary.add_range.Goals as goal

pub returns-else-first-lt-COUNT-clause-added : goal.returns-else-first-lt-COUNT-clause-added
returns-else-first-lt-COUNT-clause-added c = λ g least most.
    let from : 256 ≤ g = grind (arith, common_steps, least) in
    may_have_first-past c.args.self.now g from
