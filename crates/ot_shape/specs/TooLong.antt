-- When a text is too long to be shaped.
use Rattle.std.specs.Prelude.{◌≡◌, ◌<◌, ◌⊎◌, ℕ, false, length}
use Rattle.shaping_buffer.specs.State.{State}

-- a side would have passed the limit, and the call was refused, or the list is past it
abbrev pub IsTooLong : ℕ → State → Type 0
IsTooLong limit s = (s.successful ≡ false) ⊎ (limit < length s.input)
