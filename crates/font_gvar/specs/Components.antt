-- How many bytes a component of an outline has, by its flags (OpenType specification, "Composite Glyph Description").
use Rattle.std.specs.Prelude.{ℕ, ℤ, pos, List, Bool, Option, Some, None, not, ◌+◌, ◌*◌, nat_eq, nat_lt, bit_and, drop, length, option_and_then, unwrap_or, if◌then◌else◌}
use Rattle.std.specs.Int.{cast_signed, w8}
use Rattle.std.specs.Float.{float_one, float_zero, two_to}
use Rattle.std.specs.Float.Ieee.{Float, add, div, mul, of_int, binary32}
use Rattle.font_tables.specs.Bytes.{byte_at, number_16, number_24, signed_16}
use Rattle.font_gvar.specs.declared.components.Matrix.{Matrix}
use Rattle.font_gvar.specs.declared.points.Point.{Point}

-- whether a flag is among others
abbrev pub has_flag : ℕ → ℕ → Bool
has_flag flags flag = not (nat_eq (bit_and flags flag) 0)

-- the number of a glyph has 24 bits, or 16
abbrev pub glyph_size : ℕ → ℕ
glyph_size flags = if has_flag flags 0x2000 then 3 else 2

-- each of the two arguments has two bytes, or one
abbrev pub arguments_size : ℕ → ℕ
arguments_size flags = if has_flag flags 0x0001 then 4 else 2

-- one scale, two, or four numbers of a matrix, each of two bytes
abbrev pub matrix_size : ℕ → ℕ
matrix_size flags =
    if has_flag flags 0x0008 then 2 else if has_flag flags 0x0040 then 4 else if has_flag flags 0x0080 then 8 else 0

-- the flags stand before all that
abbrev pub component_size : ℕ → ℕ
component_size flags = 2 + glyph_size flags + arguments_size flags + matrix_size flags

-- the first or the second argument, a word or a byte: as a signed number, by which a component is moved, and as the number of a point
unfoldable pub signed_argument : List ℕ → ℕ → ℕ → ℤ
signed_argument bs flags n =
    if has_flag flags 0x0001 then unwrap_or (signed_16 bs (2 * n)) (pos 0) else cast_signed w8 (unwrap_or (byte_at bs n) 0)

unfoldable pub offset : List ℕ → ℕ → Point
offset bs flags =
    record { x = of_int binary32 (signed_argument bs flags 0); y = of_int binary32 (signed_argument bs flags 1) }

unfoldable pub argument : List ℕ → ℕ → ℕ → ℕ
argument bs flags n =
    if has_flag flags 0x0001 then unwrap_or (number_16 bs (2 * n)) 0 else unwrap_or (byte_at bs n) 0

-- a number of 16,384ths
unfoldable pub fraction : List ℕ → ℕ → Float
fraction bs at = div binary32 (of_int binary32 (unwrap_or (signed_16 bs at) (pos 0))) (two_to 14)

-- how a component is turned and stretched: alike in both directions, otherwise in each, by a whole matrix, or not at all
abbrev pub stretching : Float → Float → Matrix
stretching xx yy = record { xx = xx; yx = float_zero; xy = float_zero; yy = yy }

unfoldable pub matrix_at : List ℕ → ℕ → Matrix
matrix_at bs flags =
    if has_flag flags 0x0008 then stretching (fraction bs 0) (fraction bs 0)
    else if has_flag flags 0x0040 then stretching (fraction bs 0) (fraction bs 2)
    else if has_flag flags 0x0080
    then record { xx = fraction bs 0; yx = fraction bs 2; xy = fraction bs 4; yy = fraction bs 6 }
    else stretching float_one float_one

-- where a matrix puts a point
abbrev pub put : Matrix → Point → Point
put m p = record {
  x = add binary32 (mul binary32 p.x m.xx) (mul binary32 p.y m.xy);
  y = add binary32 (mul binary32 p.x m.yx) (mul binary32 p.y m.yy);
}

-- the glyph of a number, which has 16 bits
abbrev pub glyph_of : ℕ → Option ℕ
glyph_of number = if nat_lt number 65536 then Some number else None

-- the glyph of a component, and its arguments behind that
abbrev pub component_glyph : List ℕ → ℕ → Option ℕ
component_glyph bs flags = glyph_of (unwrap_or (if has_flag flags 0x2000 then number_24 bs 2 else number_16 bs 2) 0)

abbrev pub arguments : List ℕ → ℕ → List ℕ
arguments bs flags = drop (2 + glyph_size flags) bs

-- the arguments are how far the component is moved, or two points that meet
abbrev pub component_offset : List ℕ → ℕ → Point
component_offset bs flags =
    if has_flag flags 0x0002 then offset (arguments bs flags) flags else record { x = float_zero; y = float_zero }

abbrev pub component_anchors : List ℕ → ℕ → Option (ℕ × ℕ)
component_anchors bs flags =
    if has_flag flags 0x0002 then None
    else Some (argument (arguments bs flags) flags 0, argument (arguments bs flags) flags 1)

-- the matrix stands behind the arguments
abbrev pub component_matrix : List ℕ → ℕ → Matrix
component_matrix bs flags = matrix_at (drop (arguments_size flags) (arguments bs flags)) flags

-- the flags of the next component; `None` where there is none, or it is cut short
abbrev pub next_flags : Bool → List ℕ → Option ℕ
next_flags has_more bs =
    if has_more
    then option_and_then (λ flags. if nat_lt (length bs) (component_size flags) then None else Some flags) (number_16 bs 0) else None
