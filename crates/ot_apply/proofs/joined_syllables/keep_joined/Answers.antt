use Rattle.std.proofs.Common.{ap, sym, ◌∙◌}
use Rattle.std.proofs.lemmas.Bool.{false≢true}
use Rattle.ot_apply.specs.Stages.{joins}
use Rattle.ot_apply.proofs.joined_syllables.keep_joined.Goals as goal

pub returns-clause-unjoined : goal.returns-clause-unjoined
returns-clause-unjoined c = λ off. absurd (false≢true (sym off ∙ ap joins c.in-Universal.is))
