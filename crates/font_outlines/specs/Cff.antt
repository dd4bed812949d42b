-- The names of the glyphs of a CFF font.
use Rattle.std.specs.Prelude.{ℕ, ℤ, pos, Bool, ◌||◌, List, [], Option, Some, None, ◌==◌, ◌+◌, length, int_lt, nat_le, drop, take, unsigned_abs, unwrap_or, if◌then◌else◌, option_map, option_and_then}
use Rattle.font_tables.specs.Bytes.{byte_at, number_16}
use Rattle.outline_tables.specs.Index.{index_item, index_size}
use Rattle.outline_tables.specs.Operand.{dict_of}
use Rattle.outline_tables.specs.declared.dict.Dict.{Dict}
use Rattle.font_outlines.specs.Charset.{string_number, string_of}

-- a text that is not empty
abbrev pub if_not_empty : List ℕ → Option (List ℕ)
if_not_empty text = if length text == 0 then None else Some text

-- the name of a glyph, by the charset and the strings of the font, which has so many glyphs: those of a CID-keyed font
-- have no names
unfoldable pub glyph_name : List ℕ → List ℕ → Bool → ℕ → ℕ → Option (List ℕ)
glyph_name charset strings is_cid count glyph =
    if is_cid || nat_le count glyph then None
    else option_and_then if_not_empty (string_of strings (string_number charset glyph))

-- what follows an INDEX
abbrev pub behind : List ℕ → Option (List ℕ)
behind bs = option_map (λ size. drop size bs) (index_size bs)

-- the Top DICTs of a font: the INDEX behind that of the font's names, which a header leads to
abbrev pub top_dicts : List ℕ → Option (List ℕ)
top_dicts cff = option_and_then (λ size. behind (drop size cff)) (byte_at cff 2)

-- the first of them
unfoldable pub top_dict : List ℕ → Option Dict
top_dict cff = option_and_then (λ dicts. option_and_then dict_of (index_item dicts 0)) (top_dicts cff)

-- the strings of a font, in the INDEX behind those, and the subroutines of the whole font, behind these
unfoldable pub font_strings : List ℕ → Option (List ℕ)
font_strings cff = option_and_then behind (top_dicts cff)

-- the table from an offset on, which leads nowhere where it is not positive
abbrev pub at_offset : List ℕ → ℤ → Option (List ℕ)
at_offset table offset = if int_lt (pos 0) offset then Some (drop (unsigned_abs offset) table) else None

-- the Top DICT of a table `CFF2`, behind the header, which says how many bytes both have; and the subroutines of the whole font, behind it
unfoldable pub top_dict_2 : List ℕ → Option Dict
top_dict_2 cff =
    option_and_then (λ header. option_and_then (λ size. dict_of (take size (drop header cff))) (number_16 cff 3)) (byte_at cff 2)

unfoldable pub global_subroutines_2 : List ℕ → Option (List ℕ)
global_subroutines_2 cff =
    option_and_then (λ header. option_map (λ size. drop (header + size) cff) (number_16 cff 3)) (byte_at cff 2)

-- the deltas of a table `CFF2`, behind two bytes that say how many there are; none where the Top DICT leads to none
abbrev pub store_2 : List ℕ → ℤ → List ℕ
store_2 cff offset = drop 2 (unwrap_or (at_offset cff offset) [])
