-- Hangul's rule is asked first, and the table where it takes nothing apart.
use Rattle.std.proofs.Common.{sym, ◌∙◌}
use Rattle.rb_glyph.proofs.normalize.decompose.Goals as goal

pub returns-in-Some-clause-hangul : goal.returns-in-Some-clause-hangul
returns-in-Some-clause-hangul c = λ a b composes. sym c.in-Some.is ∙ (c.decompose_hangul.ensures a b).1 composes

pub returns-in-Some-clause-table : goal.returns-in-Some-clause-table
returns-in-Some-clause-table c =
    λ not_hangul. absurd
    (not_hangul c.in-Some.pair.0 c.in-Some.pair.1
    ((c.decompose_hangul.ensures c.in-Some.pair.0 c.in-Some.pair.1).0 c.in-Some.is))

pub returns-clause-hangul : goal.returns-clause-hangul
returns-clause-hangul c =
    λ a b composes. absurd (c.in_default.not-Some (a, b) ((c.decompose_hangul.ensures a b).1 composes))
