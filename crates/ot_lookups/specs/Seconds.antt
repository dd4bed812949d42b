-- The second glyphs of the ligatures of a subtable, in a digest.
use Rattle.std.specs.Prelude.{ℕ, ◌+◌, ◌*◌, ◌<◌, ◌≡◌, ◌≢◌, List, Option, Some, drop, false, unwrap_or}
use Rattle.font_tables.specs.Bytes.{number_16, table_at_16}
use Rattle.glyph_digests.specs.Digest.{may_have}
use Rattle.ot_lookups.specs.Sets.{set_at}
use Rattle.glyph_digests.specs.declared.digest.Digest.{Digest}

-- a ligature asks for more than the first glyph, and for another second one than this, or its table is cut short there
abbrev pub AsksForOther : List ℕ → ℕ → Type 0
AsksForOther table glyph =
    (1 < unwrap_or (number_16 table 2) 0) × (number_16 (drop 4 table) 0 ≢ Some glyph)

-- a ligature asks for a second glyph that the digest may have
abbrev pub HasSecond : List ℕ → Digest → Type 0
HasSecond ligature d = (g : ℕ) → may_have d g ≡ false → AsksForOther ligature g

-- so does the ligature of this number in a set, if it is there
abbrev pub HasSecondAt : List ℕ → ℕ → Digest → Type 0
HasSecondAt set k d = (ligature : List ℕ) → table_at_16 set (2 + 2 * k) ≡ Some ligature → HasSecond ligature d

-- so does each ligature of a set
abbrev pub HasSecondOfEach : List ℕ → Digest → Type 0
HasSecondOfEach set d = (k : ℕ) → k < unwrap_or (number_16 set 0) 0 → HasSecondAt set k d

-- so does each ligature of each set of a subtable
abbrev pub HasSeconds : List ℕ → Digest → Type 0
HasSeconds table d = (index : ℕ) → HasSecondOfEach (set_at table index) d

-- these, if any, are the digest of the second glyphs of a subtable
abbrev pub AreSeconds : List ℕ → Option Digest → Type 0
AreSeconds table seconds = (d : Digest) → seconds ≡ Some d → HasSeconds table d
