-- A file that was read is held whatever came of the lines.
use Rattle.std.specs.Prelude.{Result, Ok, Err, OnOk}

-- what holds in any case holds where a call is done
pub of_all : {A E P : Type 0} (r : Result A E) → P → OnOk r P
of_all (Ok a) h = h
of_all (Err x) h = tt
