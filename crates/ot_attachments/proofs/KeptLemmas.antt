-- What positioning keeps, step by step.
use Rattle.std.proofs.Common.{refl, ◌∙◌}
use Rattle.shaping_buffer.specs.State.{HasPositions, State}
use Rattle.ot_attachments.specs.Flags.{KeepsText}

-- before the first step
pub kept_none : (s : State) → HasPositions s → KeepsText s s
kept_none s is = record { placed = is; rest = refl; flags = λ k bit has. has }

-- after one more
pub kept_then : (s t u : State) → KeepsText s t → KeepsText t u → KeepsText s u
kept_then s t u before last = record {
  placed = last.placed;
  rest = last.rest ∙ before.rest;
  flags = λ k bit has. last.flags k bit (before.flags k bit has);
}
