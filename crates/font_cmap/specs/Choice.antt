-- Which subtable of `cmap` is used, as HarfBuzz chooses it.
use Rattle.std.specs.Prelude.{ℕ, List, [], ◌∷◌, Bool, Option, Some, None, ◌+◌, ◌*◌, nat_eq, nat_le, ◌&&◌}
use Rattle.std.specs.Prelude.{◌||◌, if◌then◌else◌}
use Rattle.std.specs.Prelude.{unwrap_or, option_and_then, is_some, length, take}
use Rattle.std.specs.Option.{option_or, option_eq}
use Rattle.font_tables.specs.Bytes.{number_16, number_32, table_at_32}
use Rattle.font_tables.specs.Rows.{first_below}
use Rattle.font_cmap.specs.declared.codes.Encoding.{Encoding}
use Rattle.font_cmap.specs.declared.codes.Encoding.TheVariants.{Unicode, Symbol, SimplifiedArabic}
use Rattle.font_cmap.specs.declared.codes.Encoding.TheVariants.{TraditionalArabic}
use Rattle.font_cmap.specs.declared.codes.Encoding.TheVariants.{MacintoshRoman, Macintosh}

-- how many bytes a subtable of a format has at least: its numbers, and the rows that they declare
unfoldable pub bytes_declared : List ℕ → ℕ → ℕ
bytes_declared bs format =
    if nat_eq format 0 then 262
    else if nat_eq format 4 then 16 + 4 * unwrap_or (number_16 bs 6) 0
    else if nat_eq format 6 then 10 + 2 * unwrap_or (number_16 bs 8) 0
    else if nat_eq format 10 then 20 + 2 * unwrap_or (number_32 bs 16) 0
    else if nat_eq format 12 || nat_eq format 13 then 16 + 12 * unwrap_or (number_32 bs 12) 0
    else if nat_eq format 14 then 10 + 11 * unwrap_or (number_32 bs 6) 0
    else 2

-- a subtable of format 4 ends where its length says, if the table goes on so far; of the others no length is read
unfoldable pub within_length : List ℕ → ℕ → List ℕ
within_length bs format = if nat_eq format 4 then take (unwrap_or (number_16 bs 2) 0) bs else bs

-- the subtable that bytes begin with, unless it is cut short
unfoldable pub whole_subtable : List ℕ → Option (List ℕ)
whole_subtable bs =
    option_and_then (λ format. let subtable = within_length bs format in
    if nat_le (bytes_declared subtable format) (length subtable) then Some subtable else None) (number_16 bs 0)

-- the encoding records: none in another version of the table, or where they do not all lie in it
unfoldable pub record_count : List ℕ → ℕ
record_count bs =
    let count = unwrap_or (number_16 bs 2) 0 in
    if option_eq nat_eq (number_16 bs 0) (Some 0) && nat_le (4 + 8 * count) (length bs) then count else 0

-- a record is of this platform and, if one is asked for, of this encoding
unfoldable pub is_record_of : List ℕ → ℕ → Option ℕ → ℕ → Bool
is_record_of bs platform None row = option_eq nat_eq (number_16 bs (4 + 8 * row)) (Some platform)
is_record_of bs platform (Some encoding) row =
    option_eq nat_eq (number_16 bs (4 + 8 * row)) (Some platform)
    && option_eq nat_eq (number_16 bs (6 + 8 * row)) (Some encoding)

-- the subtable of the first record of a platform and an encoding
unfoldable pub subtable_of : List ℕ → ℕ → Option ℕ → Option (List ℕ)
subtable_of bs platform encoding =
    option_and_then (λ row. option_and_then whole_subtable (table_at_32 bs (8 + 8 * row)))
    (first_below (is_record_of bs platform encoding) (record_count bs))

-- the first subtable that there is of these platforms and encodings
unfoldable pub first_subtable : List ℕ → List (ℕ × ℕ) → Option (List ℕ)
first_subtable bs [] = None
first_subtable bs (e ∷ es) = option_or (subtable_of bs e.0 (Some e.1)) (first_subtable bs es)

-- the encodings of Unicode, those of all its characters before those of the first 65,536
abbrev pub unicode_encodings : List (ℕ × ℕ)
unicode_encodings = (3, 10) ∷ (0, 6) ∷ (0, 4) ∷ (3, 1) ∷ (0, 3) ∷ (0, 2) ∷ (0, 1) ∷ (0, 0) ∷ []

abbrev pub symbol_subtable : List ℕ → Option (List ℕ)
symbol_subtable bs = subtable_of bs 3 (Some 0)

abbrev pub unicode_subtable : List ℕ → Option (List ℕ)
unicode_subtable bs = first_subtable bs unicode_encodings

abbrev pub macintosh_roman_subtable : List ℕ → Option (List ℕ)
macintosh_roman_subtable bs = subtable_of bs 1 (Some 0)

abbrev pub macintosh_subtable : List ℕ → Option (List ℕ)
macintosh_subtable bs = subtable_of bs 1 None

-- a subtable of symbols comes first, then one of Unicode, then one of Macintosh Roman, and then any other of the
-- Macintosh; where there is none, it has no bytes
unfoldable pub chosen_subtable : List ℕ → List ℕ
chosen_subtable bs =
    unwrap_or (option_or (symbol_subtable bs) (option_or (unicode_subtable bs)
    (option_or (macintosh_roman_subtable bs) (macintosh_subtable bs)))) []

-- what the codes of a subtable of symbols stand for, by the font page of the table `OS/2`
unfoldable pub symbol_encoding : ℕ → Encoding
symbol_encoding font_page =
    if nat_eq font_page 0 then Symbol
    else if nat_eq font_page 0xB200 then SimplifiedArabic
    else if nat_eq font_page 0xB300 then TraditionalArabic
    else Unicode

unfoldable pub chosen_encoding : List ℕ → ℕ → Encoding
chosen_encoding bs font_page =
    if is_some (symbol_subtable bs) then symbol_encoding font_page
    else if is_some (unicode_subtable bs) then Unicode
    else if is_some (macintosh_roman_subtable bs) then MacintoshRoman
    else Macintosh

-- the subtable of variation sequences, which has format 14
unfoldable pub variation_subtable : List ℕ → List ℕ
variation_subtable bs =
    let subtable = unwrap_or (subtable_of bs 0 (Some 5)) [] in
    if option_eq nat_eq (number_16 subtable 0) (Some 14) then subtable else []
