-- Hangul's rule is asked first, and the data where it takes nothing apart.
use Rattle.std.proofs.Common.{ℕ, Option, Some, ap, sym, ◌∙◌}
use Rattle.std.specs.Prelude.{option_map}
use Rattle.unicode_tables.proofs.canonical.decompose.Goals as goal

-- a pair, of which the second may be missing
with_second : ℕ × ℕ → ℕ × Option ℕ
with_second p = (p.0, Some p.1)

pub returns-in-Some-clause-hangul : goal.returns-in-Some-clause-hangul
unfolding with_second
returns-in-Some-clause-hangul c =
    λ a b composes. ap (option_map with_second) (sym c.in-Some.is ∙ (c.decompose_hangul.ensures a b).1 composes)

pub returns-in-Some-clause-data : goal.returns-in-Some-clause-data
returns-in-Some-clause-data c =
    λ not_hangul. absurd
    (not_hangul c.in-Some.pair.0 c.in-Some.pair.1
    ((c.decompose_hangul.ensures c.in-Some.pair.0 c.in-Some.pair.1).0 c.in-Some.is))

pub returns-clause-hangul : goal.returns-clause-hangul
returns-clause-hangul c =
    λ a b composes. absurd (c.in_default.not-Some (a, b) ((c.decompose_hangul.ensures a b).1 composes))
