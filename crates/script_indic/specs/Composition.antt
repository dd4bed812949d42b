-- Characters that Indic scripts decompose and compose otherwise than by Unicode's canonical mappings.
use Rattle.std.specs.Prelude.{ℕ, ◌==◌, ◌&&◌, ◌||◌, Bool}

-- Indic letters that stay whole: RRA, RRA and RHA with a nukta, and the Tamil AU
abbrev pub stays_whole : ℕ → Bool
stays_whole c = c == 0x931 || (c == 0x9DC || (c == 0x9DD || c == 0xB94))

-- the Bengali letters YA and nukta, which are composed to YYA
abbrev pub is_yya : ℕ → ℕ → Bool
is_yya a b = a == 0x9AF && b == 0x9BC
