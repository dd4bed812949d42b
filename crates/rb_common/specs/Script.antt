use Rattle.std.specs.Prelude.{ℕ, Bool, Option, Some, None, unwrap_or, ◌==◌, if◌then◌else◌, bit_and, bit_or, codes}
use Rattle.rb_common.specs.Tag.{tag_of}

-- the tag with its first letter made capital and the others made small: bit 5 of a byte makes a letter small
abbrev pub title_case : ℕ → ℕ
title_case t = bit_or (bit_and t 0xDFDFDFDF) 0x00202020

-- whether a tag stands in the columns of the letters: its first byte from 0x40 to 0x5F, the others from 0x60 to 0x7F
abbrev pub is_in_letter_columns : ℕ → Bool
is_in_letter_columns t = bit_and t 0xE0E0E0E0 == 0x40606060

-- the script that a tag in title case is another name of: codes that were private once, and variants of a script
abbrev pub alias_of : ℕ → Option ℕ
alias_of t =
    if t == tag_of (codes "Qaai") then Some (tag_of (codes "Zinh"))
    else if t == tag_of (codes "Qaac") then Some (tag_of (codes "Copt"))
    else if t == tag_of (codes "Aran") then Some (tag_of (codes "Arab"))
    else if t == tag_of (codes "Cyrs") then Some (tag_of (codes "Cyrl"))
    else if t == tag_of (codes "Geok") then Some (tag_of (codes "Geor"))
    else if t == tag_of (codes "Hans") then Some (tag_of (codes "Hani"))
    else if t == tag_of (codes "Hant") then Some (tag_of (codes "Hani"))
    else if t == tag_of (codes "Jamo") then Some (tag_of (codes "Hang"))
    else if t == tag_of (codes "Latf") then Some (tag_of (codes "Latn"))
    else if t == tag_of (codes "Latg") then Some (tag_of (codes "Latn"))
    else if t == tag_of (codes "Syre") then Some (tag_of (codes "Syrc"))
    else if t == tag_of (codes "Syrj") then Some (tag_of (codes "Syrc"))
    else if t == tag_of (codes "Syrn") then Some (tag_of (codes "Syrc"))
    else None

-- what a tag in title case names: the script that it is another name of, its own where it stands in the columns of the
-- letters, or the unknown script
abbrev pub script_by_title_case : ℕ → ℕ
script_by_title_case t =
    unwrap_or (alias_of t) (if is_in_letter_columns t then t else tag_of (codes "Zzzz"))

-- the script of a tag in any case, as the script's own tag; the null tag has none
abbrev pub script_of : ℕ → Option ℕ
script_of t = if t == 0 then None else Some (script_by_title_case (title_case t))
