-- The names of glyphs (The Compact Font Format Specification, "Charsets" and "String INDEX").
use Rattle.std.specs.Prelude.{ℕ, zero, suc, Bool, true, false, List, [], ◌∷◌, Option, Some, None, ◌==◌, ◌+◌, ◌-◌, ◌*◌, ◌/◌, ◌%◌, nat_lt, if◌then◌else◌}
use Rattle.std.specs.Prelude.{option_map, option_and_then, unwrap_or}
use Rattle.std.specs.List.{flat_map}
use Rattle.font_tables.specs.Bytes.{byte_at, number_16}
use Rattle.font_tables.specs.Rows.{first_row}
use Rattle.outline_tables.specs.Index.{index_item}
use Rattle.font_outlines.specs.StandardStrings.{standard_string}

-- the place of a range: each has the string number of its first glyph, and how many glyphs are left in it, of 8 bits or,
-- in a long one, of 16
abbrev pub range_place : Bool → ℕ → ℕ
range_place is_long row = 1 + (if is_long then 4 else 3) * row

abbrev pub range_first : Bool → List ℕ → ℕ → Option ℕ
range_first is_long bs row = number_16 bs (range_place is_long row)

abbrev pub range_left : Bool → List ℕ → ℕ → Option ℕ
range_left is_long bs row =
    if is_long then number_16 bs (range_place is_long row + 2) else byte_at bs (range_place is_long row + 2)

-- how many glyphs the first ranges name
unfoldable pub named : Bool → List ℕ → ℕ → Option ℕ
named is_long bs zero = Some 0
named is_long bs (suc row) =
    option_and_then (λ before. option_map (λ left. before + left + 1) (range_left is_long bs row)) (named is_long bs row)

-- the range that names a glyph: the first up to which so many glyphs are named; each names one at least
abbrev pub range_of : Bool → List ℕ → ℕ → Option ℕ
range_of is_long bs glyph = first_row (λ row. named is_long bs (row + 1)) glyph glyph

-- the string number that a range gives a glyph: one more for each glyph behind its first
abbrev pub string_in_range : Bool → List ℕ → ℕ → ℕ → Option ℕ
string_in_range is_long bs glyph row =
    option_and_then (λ before. option_map (λ first. first + (glyph - 1 - before)) (range_first is_long bs row))
    (named is_long bs row)

-- the string number that ranges give a glyph
unfoldable pub range_string : Bool → List ℕ → ℕ → Option ℕ
range_string is_long bs glyph = option_and_then (string_in_range is_long bs glyph) (range_of is_long bs glyph)

-- the string number that a charset gives a glyph behind the first: a list of them, or ranges
abbrev pub charset_string : List ℕ → ℕ → Option ℕ
charset_string bs glyph =
    option_and_then (λ format. if format == 0 then number_16 bs (2 * glyph - 1)
    else if format == 1 then range_string false bs glyph
    else if format == 2 then range_string true bs glyph else None) (byte_at bs 0)

-- the string number of a glyph: 0 for the first one, and where the charset names no other
abbrev pub string_number : List ℕ → ℕ → ℕ
string_number bs glyph = if glyph == 0 then 0 else unwrap_or (charset_string bs glyph) 0

-- the string of a number: the standard strings, and then those of the font
unfoldable pub string_of : List ℕ → ℕ → Option (List ℕ)
string_of strings n = if nat_lt n 391 then standard_string n else index_item strings (n - 391)

-- a charset of ranges, each a first string number and how many are left
abbrev pub charset_of : List (ℕ × ℕ) → List ℕ
charset_of ranges = 1 ∷ flat_map (λ r. (r.0 / 256) ∷ ((r.0 % 256) ∷ (r.1 ∷ []))) ranges

-- the charset that an offset below 3 names: ISOAdobe, Expert or ExpertSubset (Appendix C)
unfoldable pub predefined_charset : ℕ → Option (List ℕ)
predefined_charset n =
    if n == 0 then Some (charset_of ((1, 227) ∷ []))
    else if n == 1 then Some (charset_of ((1, 0) ∷ ((229, 9) ∷ ((13, 2) ∷ ((99, 0) ∷ ((239, 9) ∷ ((27, 1) ∷ ((249, 17)
    ∷ ((109, 1) ∷ ((267, 51) ∷ ((158, 0) ∷ ((155, 0) ∷ ((163, 0) ∷ ((319, 7) ∷ ((150, 0) ∷ ((164, 0) ∷ ((169, 0)
    ∷ ((327, 51) ∷ []))))))))))))))))))
    else if n == 2 then Some (charset_of ((1, 0) ∷ ((231, 1) ∷ ((235, 3) ∷ ((13, 2) ∷ ((99, 0) ∷ ((239, 9) ∷ ((27, 1)
    ∷ ((249, 2) ∷ ((253, 13) ∷ ((109, 1) ∷ ((267, 3) ∷ ((272, 0) ∷ ((300, 2) ∷ ((305, 0) ∷ ((314, 1) ∷ ((158, 0)
    ∷ ((155, 0) ∷ ((163, 0) ∷ ((320, 6) ∷ ((150, 0) ∷ ((164, 0) ∷ ((169, 0) ∷ ((327, 19) ∷ []))))))))))))))))))))))))
    else None
