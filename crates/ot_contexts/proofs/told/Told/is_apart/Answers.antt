use Rattle.ot_contexts.proofs.told.Told.is_apart.Goals as goal

pub returns-then-is_next_apart : goal.returns-then-is_next_apart
returns-then-is_next_apart c = λ so neighbours m p told rule.
    c.is_next_apart.ensures c.if-is_next_apart.true neighbours m p told.0 rule
