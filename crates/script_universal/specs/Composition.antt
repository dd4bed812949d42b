-- Characters that Khmer decomposes otherwise than by Unicode's canonical mappings.
use Rattle.std.specs.Prelude.{ℕ, ◌==◌, ◌||◌, Bool}

-- Khmer vowel signs on both sides of a letter, of which the left part is the sign E
abbrev pub is_two_part : ℕ → Bool
is_two_part c = c == 0x17BE || (c == 0x17BF || (c == 0x17C0 || (c == 0x17C4 || c == 0x17C5)))
