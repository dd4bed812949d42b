use Rattle.ot_contexts.proofs.told.Told.apart.Goals as goal

pub returns-then-is_next_apart : goal.returns-then-is_next_apart
returns-then-is_next_apart c = λ some neighbours m p told rule.
    c.is_next_apart.ensures c.if-is_next_apart.true neighbours m p told.0 rule

pub returns-then-is_apart : goal.returns-then-is_apart
returns-then-is_apart c = λ some neighbours m p told rule.
    c.is_apart.ensures c.if-is_apart.true neighbours m p (rw c.in-Some.is at told.1) rule
