use Rattle.std.proofs.Common.{◌≤◌, arith}
use Rattle.glyph_digests.proofs.first_glyphs.summaries_up_to.Goals as goal

pub returns-clause-digest : goal.returns-clause-digest
returns-clause-digest c = λ glyph some.
    let most : glyph ≤ c.args.highest = c.requires glyph some in
    c.up_to.ensures glyph (omega (arith, most, c.from.ensures))
