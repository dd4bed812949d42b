use Rattle.std.proofs.Common.{sym, ◌∙◌}
use Rattle.std.proofs.lemmas.Bool.{false≢true}
use Rattle.ot_apply.proofs.substitution.course_of_syllables.Goals as goal

pub returns-then-not-orders_syllables-clause-ordered : goal.returns-then-not-orders_syllables-clause-ordered
returns-then-not-orders_syllables-clause-ordered c = λ on.
    absurd (false≢true (sym c.if-not-orders_syllables.true ∙ c.orders_syllables.ensures ∙ on))

pub returns-clause-ordered : goal.returns-clause-ordered
returns-clause-ordered c = λ on. c.of.ensures

pub returns-clause-unordered : goal.returns-clause-unordered
returns-clause-unordered c = λ off.
    absurd (false≢true (sym off ∙ sym c.orders_syllables.ensures ∙ c.if-not-orders_syllables.false))
