-- The names of glyphs in a table `post`.
use Rattle.std.specs.Prelude.{ℕ, zero, suc, List, Option, Some, None, ◌+◌, ◌-◌, ◌*◌, if◌then◌else◌, nat_eq, nat_lt, length, take, drop, unwrap_or}
use Rattle.std.specs.Prelude.{option_map, option_and_then}
use Rattle.font_tables.specs.Bytes.{byte_at, number_16, number_32, is_number}
use Rattle.font_tables.specs.Rows.{rows_within}
use Rattle.font_tables.specs.MacintoshNames.{macintosh_name}

-- strings one behind the other, each behind a byte with its length: one begins at a place, if it ends in these bytes
abbrev pub string_at : List ℕ → ℕ → Option ℕ
string_at bs at = option_and_then (λ size. if nat_lt (at + size) (length bs) then Some at else None) (byte_at bs at)

-- the place behind a string
abbrev pub behind : List ℕ → ℕ → ℕ
behind bs at = at + 1 + unwrap_or (byte_at bs at) 0

-- where the string with a number begins
unfoldable pub string_start : List ℕ → ℕ → Option ℕ
string_start bs zero = string_at bs 0
string_start bs (suc n) = option_and_then (λ at. string_at bs (behind bs at)) (string_start bs n)

-- the bytes of the string that begins at a place
abbrev pub string_of : List ℕ → ℕ → List ℕ
string_of bs at = take (unwrap_or (byte_at bs at) 0) (drop (at + 1) bs)

-- version 2: a number for each glyph, of two bytes each from the byte 34 on, and behind them the names that are not the
-- Macintosh's
abbrev pub index_count : List ℕ → ℕ
index_count post = rows_within post 34 2 (unwrap_or (number_16 post 32) 0)

abbrev pub own_names : List ℕ → List ℕ
own_names post = drop (34 + 2 * index_count post) post

-- the name of a number: one of the Macintosh's 258, or of the table's own
abbrev pub name_of : List ℕ → ℕ → Option (List ℕ)
name_of names number =
    if nat_lt number 258 then macintosh_name number
    else option_map (string_of names) (string_start names (number - 258))

-- a glyph with a name of no bytes has none
abbrev pub not_empty : List ℕ → Option (List ℕ)
not_empty name = if nat_eq (length name) 0 then None else Some name

-- the name of a glyph: versions 1 and 2 have them
unfoldable pub glyph_name : List ℕ → ℕ → Option (List ℕ)
glyph_name post glyph =
    if is_number (number_32 post 0) 0x00010000 then macintosh_name glyph
    else if is_number (number_32 post 0) 0x00020000
    then if nat_lt glyph (index_count post)
    then option_and_then not_empty (option_and_then (name_of (own_names post)) (number_16 post (34 + 2 * glyph))) else None
    else None
