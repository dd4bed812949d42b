-- What characters are made of, by their numbers: a Hangul syllable by the rule of the Unicode Standard, section 3.12,
-- and any other by its row in the table. What is no character has no parts, makes nothing and is of class 0.
use Rattle.std.specs.Prelude.{ℕ, ◌+◌, ◌-◌, ◌*◌, ◌/◌, ◌%◌, ◌==◌, ◌&&◌, ◌||◌, Bool, List, Option, Some, None}
use Rattle.std.specs.Prelude.{nat_lt, if◌then◌else◌}
use Rattle.std.specs.Int.{is_in_range}
use Rattle.std.specs.Option.{option_or}
use Rattle.rb_glyph.specs.Characters.{modified_combining_class}
use Rattle.rb_glyph.specs.Tables.{composition_of, decomposition_of}

-- the number of a character: not of a surrogate, and not past the last
unfoldable pub is_character : ℕ → Bool
is_character c = nat_lt c 0xD800 || is_in_range 0xE000 0x10_FFFF c

-- a syllable with a trailing consonant has as parts the syllable without it and that consonant, and any other a leading
-- consonant and a vowel: there are 28 syllables of each such two, and 21 vowels
unfoldable pub hangul_parts : ℕ → Option (ℕ × ℕ)
hangul_parts s =
    let n = s - 0xAC00 in
    if is_in_range 0xAC00 0xD7A3 s then
    (if n % 28 == 0 then Some (0x1100 + n / 28 / 21, 0x1161 + n / 28 % 21) else Some (s - n % 28, 0x11A7 + n % 28))
    else None

-- the syllable of a leading consonant and a vowel, or of a syllable without a trailing consonant and such a consonant
unfoldable pub hangul_syllable : ℕ → ℕ → Option ℕ
hangul_syllable a b =
    if is_in_range 0x1100 0x1112 a && is_in_range 0x1161 0x1175 b then
    Some (0xAC00 + ((a - 0x1100) * 21 + (b - 0x1161)) * 28)
    else if is_in_range 0xAC00 0xD7A3 a && ((a - 0xAC00) % 28 == 0 && is_in_range 0x11A8 0x11C2 b) then
    Some (a + (b - 0x11A7))
    else None

-- the two parts of a character, the second 0 where there is none
unfoldable pub parts_of : List (ℕ × ℕ × Option ℕ) → ℕ → Option (ℕ × ℕ)
parts_of rows c = if is_character c then option_or (hangul_parts c) (decomposition_of c rows) else None

-- the character that two compose to
unfoldable pub composed_of : List ((ℕ × ℕ) × ℕ) → ℕ → ℕ → Option ℕ
composed_of rows a b =
    if is_character a && is_character b then option_or (hangul_syllable a b) (composition_of a b rows) else None

-- the class that a mark is reordered by, and 0 of any other character
unfoldable pub class_of : List (ℕ × ℕ) → ℕ → ℕ
class_of rows c = if is_character c then modified_combining_class c rows else 0
