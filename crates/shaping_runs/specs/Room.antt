-- Runs whose sides stay within a number of glyphs.
use Rattle.std.specs.Prelude.{ℕ, ◌≤◌, List, [], ◌∷◌, length}
use Rattle.shaping_buffer.specs.State.{State}
use Rattle.shaping_runs.specs.declared.call.Call.{Call}
use Rattle.shaping_runs.specs.Replay.{turn}

-- each side has at most n glyphs
abbrev pub IsWithin : ℕ → State → Type 0
IsWithin n s = (length s.out ≤ n) × (length s.input ≤ n)

-- so it is before the calls, between them and after them
abbrev pub StaysWithin : ℕ → List Call → State → Type 0
StaysWithin n [] s = IsWithin n s
StaysWithin n (call ∷ calls) s = IsWithin n s × StaysWithin n calls (turn call s).state
