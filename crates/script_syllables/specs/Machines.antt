-- Machines that read categories of characters.
use Rattle.std.specs.Prelude.{ℕ, ◌+◌, ◌*◌, ◌==◌, nat_lt, get_or, if◌then◌else◌}
use Rattle.script_syllables.specs.declared.machine.Machine.{Machine}

-- The state after a character of a category: 0 where a syllable goes no further. Categories without a column are one
-- syllable by themselves.
abbrev pub next_state : Machine → ℕ → ℕ → ℕ
next_state m state category =
    if nat_lt category m.width then get_or m.next.now (state * m.width + category) 0
    else if state == 1 then m.other else 0
