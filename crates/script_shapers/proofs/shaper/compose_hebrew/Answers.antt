use Rattle.std.proofs.Common.{◌≡◌, ℕ, Option, Some, None, ap}
use Rattle.std.proofs.lemmas.Bool.{false≢true}
use Rattle.std.specs.Prelude.{is_some}
use Rattle.script_shapers.proofs.shaper.compose_hebrew.Goals as goal

pub returns-in-None-clause-hangul : goal.returns-in-None-clause-hangul
returns-in-None-clause-hangul c = λ s made.
    let none : Option ℕ = None in
    let wrong : none ≡ Some s = c.in-None.ensures.hangul s made in absurd (false≢true (ap is_some wrong))
