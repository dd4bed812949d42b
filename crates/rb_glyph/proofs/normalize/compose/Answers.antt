-- Hangul's rule is asked first, and the table where it makes nothing.
use Rattle.std.proofs.Common.{sym, ◌∙◌}
use Rattle.rb_glyph.proofs.normalize.compose.Goals as goal

pub returns-in-Some-clause-hangul : goal.returns-in-Some-clause-hangul
returns-in-Some-clause-hangul c = λ s composes. sym c.in-Some.is ∙ (c.compose_hangul.ensures s).1 composes

pub returns-in-Some-clause-table : goal.returns-in-Some-clause-table
returns-in-Some-clause-table c =
    λ not_hangul. absurd
    (not_hangul c.in-Some.syllable ((c.compose_hangul.ensures c.in-Some.syllable).0 c.in-Some.is))

pub returns-clause-hangul : goal.returns-clause-hangul
returns-clause-hangul c = λ s composes. absurd (c.in_default.not-Some s ((c.compose_hangul.ensures s).1 composes))
