-- OpenType's registry of language systems, by the codes of ISO 639, as the table `LANGUAGE_ROWS` has it.
use Rattle.std.specs.Prelude.{ℕ, ◌/◌, ◌&&◌, ◌++◌, Bool, true, List, [], ◌∷◌, Option, Some, None, if◌then◌else◌, length}
use Rattle.std.specs.Prelude.{take, drop, find, option_map, option_to_list}
use Rattle.std.specs.Simd.{first_chunks}
use Rattle.std.specs.Str.{bytes_eq}
use Rattle.rb_common.specs.Ascii.{hyphen}
use Rattle.rb_common.specs.Tag.{tag_of}
use Rattle.rb_text.specs.LanguageCut.{is_hyphen}
use Rattle.rb_text.specs.LanguageTable.{is_below}
use Rattle.ot_tags.specs.declared.language_rows.TheConstants.{LANGUAGE_ROWS}

-- a text in rows of sixteen bytes
unfoldable pub rows_of : List ℕ → List (List ℕ)
rows_of text = first_chunks 16 (length text / 16) text

-- the rows of the registry: a code of three bytes, three cells of four bytes, and the end of the line
unfoldable pub registry : List (List ℕ)
registry = rows_of LANGUAGE_ROWS.now

-- the code of a row
abbrev pub code_of : List ℕ → List ℕ
code_of row = take 3 row

-- the row that begins with a code
abbrev pub row_of : List ℕ → List (List ℕ) → Option (List ℕ)
row_of code rows = find (λ row. bytes_eq (code_of row) code) rows

-- each row's code is below that of the next
unfoldable pub codes_rise : List (List ℕ) → Bool
codes_rise [] = true
codes_rise (row ∷ []) = true
codes_rise (row ∷ (next ∷ rows)) = is_below (code_of row) (code_of next) && codes_rise (next ∷ rows)

-- the tag of a cell; there is none where it begins with `-`
unfoldable pub tag_of_cell : List ℕ → Option ℕ
tag_of_cell [] = None
tag_of_cell (a ∷ []) = None
tag_of_cell (a ∷ b ∷ []) = None
tag_of_cell (a ∷ b ∷ c ∷ []) = None
tag_of_cell (a ∷ b ∷ c ∷ d ∷ more) = if is_hyphen a then None else Some (tag_of (a ∷ b ∷ c ∷ d ∷ []))

-- the tags of a row: those of its cells
abbrev pub tags_of_row : List ℕ → List ℕ
tags_of_row row =
    option_to_list (tag_of_cell (drop 3 row)) ++ option_to_list (tag_of_cell (drop 7 row))
    ++ option_to_list (tag_of_cell (drop 11 row))

-- the tags of a code of three bytes, where the registry has it
unfoldable pub tags_of_code : List ℕ → Option (List ℕ)
tags_of_code code = option_map tags_of_row (row_of code registry)

-- the tags of a subtag of two or three bytes, of which there may be none; the registry has a code of two with `-` behind it
unfoldable pub registered_tags : List ℕ → Option (List ℕ)
registered_tags [] = None
registered_tags (a ∷ []) = None
registered_tags (a ∷ b ∷ []) = tags_of_code (a ∷ b ∷ hyphen ∷ [])
registered_tags (a ∷ b ∷ c ∷ []) = tags_of_code (a ∷ b ∷ c ∷ [])
registered_tags (a ∷ b ∷ c ∷ d ∷ more) = None
