-- When what was put out has left the storage of the input.
use Rattle.std.specs.Prelude.{◌≡◌, ◌≤◌, ◌||◌, false, List, [], ◌∷◌, length, nat_lt}
use Rattle.shaping_buffer.specs.State.{State}
use Rattle.shaping_runs.specs.declared.call.Call.{Call}
use Rattle.shaping_runs.specs.Replay.{turn}

-- what was put out in place has no more glyphs than were read, as in every buffer
abbrev pub IsNear : State → Type 0
IsNear s = s.have_separate_output ≡ false → length s.out ≤ s.idx

-- the output is separate where it was before, or where it has more glyphs than were read
abbrev pub Follows : State → State → Type 0
Follows old new = new.have_separate_output ≡ (old.have_separate_output || nat_lt new.idx (length new.out))

-- what was put out stands in the storage of the input, where it was read; with no output open nothing was put out
pub record IsInPlace (s : State) : Type 0 where
  pub together : s.have_separate_output ≡ false
  pub near : length s.out ≤ s.idx
  pub closed : s.have_output ≡ false → s.out ≡ []

-- no output is separate before the calls, between them or after them
abbrev pub StaysInPlace : List Call → State → Type 0
StaysInPlace [] s = s.have_separate_output ≡ false
StaysInPlace (call ∷ calls) s = (s.have_separate_output ≡ false) × StaysInPlace calls (turn call s).state
