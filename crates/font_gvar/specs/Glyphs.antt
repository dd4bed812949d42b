-- Where the variations of a glyph lie in a table `gvar`, and how many points an outline has.
use Rattle.std.specs.Prelude.{ℕ, ℤ, pos, ◌-ℤ◌, List, [], Option, Some, None, Bool, ◌+◌, ◌-◌, ◌*◌, ◌/◌, ◌%◌, ◌&&◌, ◌||◌, nat_eq, nat_lt, nat_le, not, bit_and, length, take, drop, unwrap_or, option_map, option_and_then, if◌then◌else◌}
use Rattle.font_tables.specs.Bytes.{byte_at, number_16, number_32, signed_16, is_number}
use Rattle.font_gvar.specs.declared.gvar.GlyphVariations.{GlyphVariations}

-- whether offsets have 32 bits, by the lowest flag
abbrev pub has_long_offsets : List ℕ → Bool
has_long_offsets table = nat_eq (unwrap_or (number_16 table 14) 0 % 2) 1

-- the tuples of coordinates that glyphs share
abbrev pub shared_tuples : List ℕ → List ℕ
shared_tuples table = drop (unwrap_or (number_32 table 8) 0) table

-- whether a table of a font with so many glyphs is of major version 1, and holds its shared tuples and its offsets, of which there is
-- one more than there are glyphs
unfoldable pub is_whole : List ℕ → ℕ → Bool
is_whole table glyphs =
    let size = if has_long_offsets table then 4 else 2 in
    is_number (number_16 table 0) 1
    && (nat_le (unwrap_or (number_16 table 4) 0 * unwrap_or (number_16 table 6) 0) (length (shared_tuples table) / 2)
    && nat_le (20 + size * (glyphs + 1)) (length table))

-- the offset of a number: offsets of 16 bits count pairs of bytes
abbrev pub offset : List ℕ → ℕ → ℕ
offset table n =
    if has_long_offsets table then unwrap_or (number_32 table (20 + 4 * n)) 0
    else 2 * unwrap_or (number_16 table (20 + 2 * n)) 0

-- bytes that are too few to say how many tuples there are, and where their deltas begin, are none
abbrev pub with_header : List ℕ → List ℕ
with_header bytes = if nat_lt (length bytes) 4 then [] else bytes

-- the variations of a glyph: from its offset up to the next one, from the first byte of variations on
unfoldable pub data_of : GlyphVariations → ℕ → List ℕ
data_of v glyph =
    let table = v.table.now in
    let first = unwrap_or (number_32 table 16) 0 in
    if nat_lt glyph v.glyph_count && nat_le (offset table glyph) (offset table (glyph + 1))
    then with_header (take (offset table (glyph + 1) - offset table glyph) (drop (first + offset table glyph) table)) else []

-- how many points an outline of so many contours has: one more than the number of the last point of the last contour. `None` where the
-- outline does not hold that, and the number of bytes of its instructions behind it
unfoldable pub point_count : List ℕ → ℕ → Option ℕ
point_count outline contours =
    if nat_eq contours 0 || nat_lt (length outline) (12 + 2 * contours) then None
    else option_map (λ last. last + 1) (number_16 outline (8 + 2 * contours))

-- how far a coordinate is from the one before: a short one is a byte, whose sign is beside it, and else it is the same one, or two bytes
-- say it; and how many bytes say it
abbrev pub step : List ℕ → Bool → Bool → Option ℤ
step bytes is_short is_same =
    if is_short then option_map (λ size. if is_same then pos size else pos 0 -ℤ pos size) (byte_at bytes 0)
    else if is_same then Some (pos 0) else signed_16 bytes 0

abbrev pub step_size : Bool → Bool → ℕ
step_size is_short is_same = if is_short then 1 else if is_same then 0 else 2

-- the flags of the next point: those before, where they are repeated, and else a byte; one that says so is repeated as often as a second
-- byte says
abbrev pub is_repeated : ℕ → Bool
is_repeated flag = not (nat_eq (bit_and flag 0x08) 0)

abbrev pub read_flag : List ℕ → Option ℕ
read_flag rest =
    option_and_then (λ flag. if is_repeated flag then option_map (λ _. flag) (byte_at rest 1) else Some flag) (byte_at rest 0)

abbrev pub next_flag : List ℕ → ℕ → ℕ → Option ℕ
next_flag rest flag repeats = if nat_lt 0 repeats then Some flag else read_flag rest

abbrev pub behind_flag : List ℕ → ℕ → ℕ → List ℕ
behind_flag rest flag repeats =
    if nat_lt 0 repeats then rest else if is_repeated flag then drop 2 rest else drop 1 rest

abbrev pub repeats_left : List ℕ → ℕ → ℕ → ℕ
repeats_left rest flag repeats =
    if nat_lt 0 repeats then repeats - 1 else if is_repeated flag then unwrap_or (byte_at rest 1) 0 else 0
