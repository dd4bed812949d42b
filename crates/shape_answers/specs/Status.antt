-- The status that the program ends with.
use Rattle.std.specs.Prelude.{ℕ, Bool, true, false, Result, Ok, Err}

-- 0 where every line was shaped, and 1 where one was not, or where the run ended early
abbrev pub status_after : {E : Type 0} → Result Bool E → ℕ
status_after (Ok true) = 0
status_after (Ok false) = 1
status_after (Err error) = 1
