-- How much work a text may still cost.
use Rattle.std.specs.Prelude.{ℕ, ◌+◌, ◌-◌, ◌*◌, ◌^◌, ◌≤◌, min}
use Rattle.ot_layout.specs.declared.budget.Budget.{Budget}

-- nothing of a budget has become more
abbrev pub IsNotMore : Budget → Budget → Type 0
IsNotMore old new = (new.nested ≤ old.nested) × (new.steps ≤ old.steps)

-- the steps of a text with so many glyphs: 16,384 for each, and 262,144 more, or as many as 64 bits hold
abbrev pub steps_for : ℕ → ℕ
steps_for glyphs = min (262144 + 16384 * glyphs) (2 ^ 64 - 1)
