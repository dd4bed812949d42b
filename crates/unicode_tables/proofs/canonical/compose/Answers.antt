-- Hangul's rule is asked first, and the data where it makes nothing.
use Rattle.std.proofs.Common.{sym, ◌∙◌}
use Rattle.unicode_tables.proofs.canonical.compose.Goals as goal

pub returns-in-Some-clause-hangul : goal.returns-in-Some-clause-hangul
returns-in-Some-clause-hangul c = λ s composes. sym c.in-Some.is ∙ (c.compose_hangul.ensures s).1 composes

pub returns-in-Some-clause-data : goal.returns-in-Some-clause-data
returns-in-Some-clause-data c =
    λ not_hangul. absurd
    (not_hangul c.in-Some.syllable ((c.compose_hangul.ensures c.in-Some.syllable).0 c.in-Some.is))

pub returns-clause-hangul : goal.returns-clause-hangul
returns-clause-hangul c = λ s composes. absurd (c.in_default.not-Some s ((c.compose_hangul.ensures s).1 composes))
