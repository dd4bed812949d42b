use Rattle.ot_contexts.proofs.told.Told.is_second_apart.Goals as goal

pub returns-in-Some : goal.returns-in-Some
returns-in-Some c = λ so neighbours m p told rule.
    c.is_apart.ensures so neighbours m p (rw c.in-Some.is at told.1) rule
