-- The fonts of a Macintosh resource file.
use Rattle.std.specs.Prelude.{ℕ, List, Option, None, Bool, ◌+◌, ◌*◌, if◌then◌else◌, nat_le, unwrap_or, codes, option_map, option_and_then}
use Rattle.rb_common.specs.Tag.{tag_of}
use Rattle.font_tables.specs.Bytes.{number_16, number_24, number_32, is_number}
use Rattle.font_tables.specs.Rows.{first_below}

-- a resource file begins with the place of its data, which is 256
abbrev pub is_resource_file : List ℕ → Bool
is_resource_file file = is_number (number_32 file 0) 256

-- where the list of the types of resources begins: at an offset in the map, from the start of that
abbrev pub type_list : List ℕ → Option ℕ
type_list file =
    option_and_then (λ map. option_map (λ offset. map + offset) (number_16 file (map + 24))) (number_32 file 4)

-- whether a type of the list is that of fonts
abbrev pub is_font_type : List ℕ → ℕ → ℕ → Bool
is_font_type file types row = is_number (number_32 file (types + 2 + 8 * row)) (tag_of (codes "sfnt"))

-- the first type of fonts among the types, whose list says how many there are but one
abbrev pub font_type : List ℕ → ℕ → Option ℕ
font_type file types =
    option_and_then (λ more. first_below (is_font_type file types) (more + 1)) (number_16 file types)

-- how many resources a type has
abbrev pub resource_count : List ℕ → ℕ → ℕ → Option ℕ
resource_count file types row = option_map (λ more. more + 1) (number_16 file (types + 6 + 8 * row))

-- where the bytes of a resource of a type begin: behind their length, at an offset in the data
abbrev pub resource_of_type : List ℕ → ℕ → ℕ → ℕ → Option ℕ
resource_of_type file types row index =
    option_and_then
    (λ list. option_map (λ offset. 256 + offset + 4) (number_24 file (types + list + 12 * index + 5)))
    (number_16 file (types + 8 + 8 * row))

-- where the bytes of the font with this index begin
unfoldable pub resource_font : List ℕ → ℕ → Option ℕ
resource_font file index =
    option_and_then
    (λ types. option_and_then
    (λ row. option_and_then
    (λ more. if nat_le index more then resource_of_type file types row index else None)
    (number_16 file (types + 6 + 8 * row)))
    (font_type file types))
    (type_list file)

-- how many fonts there are, where there is a type of fonts
unfoldable pub counted_fonts : List ℕ → Option ℕ
counted_fonts file =
    option_and_then (λ types. option_and_then (resource_count file types) (font_type file types)) (type_list file)

-- how many fonts there are
abbrev pub resource_fonts : List ℕ → ℕ
resource_fonts file = unwrap_or (counted_fonts file) 0
