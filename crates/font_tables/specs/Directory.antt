-- The fonts of a file, and their tables.
use Rattle.std.specs.Prelude.{ℕ, List, [], Option, Some, None, Bool, false, ◌+◌, ◌*◌, ◌||◌, if◌then◌else◌, nat_eq, nat_lt, unwrap_or, codes, take, drop}
use Rattle.std.specs.Prelude.{option_and_then, option_map}
use Rattle.std.specs.Option.{option_map_or}
use Rattle.rb_common.specs.Tag.{tag_of}
use Rattle.font_tables.specs.Bytes.{number_16, number_32, is_number}
use Rattle.font_tables.specs.Resources.{is_resource_file, resource_font, resource_fonts}
use Rattle.font_tables.specs.Rows.{first_below, rows_within}

-- the tags of a file with one font: TrueType outlines (also Apple's `true`), CFF outlines, Type 1 outlines
abbrev pub is_font_tag : ℕ → Bool
is_font_tag tag =
    nat_eq tag 0x00010000 || nat_eq tag (tag_of (codes "true")) || nat_eq tag (tag_of (codes "OTTO"))
    || nat_eq tag (tag_of (codes "typ1"))

-- a collection has the tag `ttcf` and the major version 1 or 2
abbrev pub is_collection : List ℕ → Bool
is_collection file =
    if is_number (number_32 file 0) (tag_of (codes "ttcf"))
    then is_number (number_16 file 4) 1 || is_number (number_16 file 4) 2 else false

-- how many fonts a file has
unfoldable pub face_count : List ℕ → ℕ
face_count file =
    if option_map_or is_font_tag (number_32 file 0) false then 1
    else if is_resource_file file then resource_fonts file
    else if is_collection file then rows_within file 12 4 (unwrap_or (number_32 file 8) 0) else 0

-- an offset that leads somewhere
abbrev pub not_zero : ℕ → Option ℕ
not_zero offset = if nat_eq offset 0 then None else Some offset

-- where the table directory of a font begins: at the start of the file, or where a collection says
unfoldable pub directory_of : List ℕ → ℕ → Option ℕ
directory_of file index =
    if option_map_or is_font_tag (number_32 file 0) false then Some 0
    else if is_collection file
    then if nat_lt index (rows_within file 12 4 (unwrap_or (number_32 file 8) 0))
    then option_and_then not_zero (number_32 file (12 + 4 * index)) else None
    else None

-- a font of a file: the bytes from which its offsets count, and where its table directory begins in them. Those of a
-- resource file begin with the font
unfoldable pub font_of : List ℕ → ℕ → Option (List ℕ × ℕ)
font_of file index =
    if is_resource_file file then option_map (λ start. (drop start file, 0)) (resource_font file index)
    else option_map (λ directory. (file, directory)) (directory_of file index)

-- the records of a directory: 16 bytes each, behind its first 12
abbrev pub record_count : List ℕ → ℕ → ℕ
record_count file directory = rows_within file (directory + 12) 16 (unwrap_or (number_16 file (directory + 4)) 0)

-- whether a record has a tag
abbrev pub record_has : List ℕ → ℕ → ℕ → ℕ → Bool
record_has file directory tag row = is_number (number_32 file (directory + 12 + 16 * row)) tag

-- the bytes that a record leads to, from the start of the file, as far as they lie in it
abbrev pub table_of_record : List ℕ → ℕ → ℕ → List ℕ
table_of_record file directory row =
    take (unwrap_or (number_32 file (directory + 24 + 16 * row)) 0)
    (drop (unwrap_or (number_32 file (directory + 20 + 16 * row)) 0) file)

-- the table of the first record with a tag; an empty one where there is none
unfoldable pub table_of : List ℕ → ℕ → ℕ → List ℕ
table_of file directory tag =
    option_map_or (table_of_record file directory)
    (first_below (record_has file directory tag) (record_count file directory)) []
