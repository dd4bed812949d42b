-- Operators of charstrings (The Type 2 Charstring Format, "Path Construction Operators").
use Rattle.std.specs.Prelude.{ℕ, zero, suc, ℤ, pos, neg_ℤ, Bool, true, false, List, Option, Some, None, ◌==◌, ◌&&◌, ◌||◌, ◌+◌, ◌-◌, ◌*◌, ◌/◌, ◌%◌, ◌^◌, ◌+ℤ◌}
use Rattle.std.specs.Prelude.{drop, length, min, not, nat_le, nat_lt, slice_index_or, slice_set, unsigned_abs, unwrap_or, if◌then◌else◌}
use Rattle.std.specs.Int.{saturate_signed, w32, w64}
use Rattle.font_outlines.specs.Path.{curve, line, move_by, moved, to}
use Rattle.font_outlines.specs.declared.path.Path.{Path}
use Rattle.font_outlines.specs.declared.path.Point.{Point}

-- a number before an operator, and two in a row as a distance
abbrev pub number : List ℤ → ℕ → ℤ
number ns i = slice_index_or ns i (pos 0)

abbrev pub pair : List ℤ → ℕ → Point
pair ns i = record { x = number ns i; y = number ns (i + 1) }

-- a distance along a direction and across it
abbrev pub turned : Bool → ℤ → ℤ → Point
turned is_horizontal along across =
    if is_horizontal then record { x = along; y = across } else record { x = across; y = along }

-- the same distance the other way
abbrev pub back : ℤ → ℤ
back far = saturate_signed w64 (neg_ℤ far)

-- the curve of six numbers
abbrev pub curve_at : Path → List ℤ → ℕ → Path
curve_at path ns i = curve path (pair ns i) (pair ns (i + 2)) (pair ns (i + 4))

-- the first lines of two numbers each, and the first curves of six
unfoldable pub lines : Path → List ℤ → ℕ → Path
lines path ns zero = path
lines path ns (suc n) = line (lines path ns n) (pair ns (2 * n))

unfoldable pub curves : Path → List ℤ → ℕ → Path
curves path ns zero = path
curves path ns (suc n) = curve_at (curves path ns n) ns (6 * n)

-- which of two directions in turn is the next one, behind so many
abbrev pub way : Bool → ℕ → Bool
way first zero = first
way first (suc n) = not (way first n)

-- `hlineto` and `vlineto`: the first lines, horizontal and vertical in turn
unfoldable pub alternating_lines : Bool → Path → List ℤ → ℕ → Path
alternating_lines first path ns zero = path
alternating_lines first path ns (suc n) =
    line (alternating_lines first path ns n) (turned (way first n) (number ns n) (pos 0))

-- `hhcurveto` and `vvcurveto`: the first curves of four numbers each, which begin and end in one direction; a number before all says
-- how far the first one begins across it
abbrev pub across_first : List ℤ → ℕ → ℤ
across_first ns n = if length ns % 2 == 1 && n == 0 then number ns 0 else pos 0

unfoldable pub parallel_curves : Bool → Path → List ℤ → ℕ → Path
parallel_curves is_horizontal path ns zero = path
parallel_curves is_horizontal path ns (suc n) =
    let i = length ns % 2 + 4 * n in
    curve (parallel_curves is_horizontal path ns n) (turned is_horizontal (number ns i) (across_first ns n)) (pair ns (i + 1))
    (turned is_horizontal (number ns (i + 3)) (pos 0))

-- `hvcurveto` and `vhcurveto`: the first curves of four numbers each, which end in the other direction than they begin in, and go on as
-- the one before ended; one number behind them says how far the last one ends across its direction
abbrev pub has_last : List ℤ → Bool
has_last ns =
    nat_lt (4 * (length ns / 4)) (length ns) && (length ns / 4 % 2 == 1 || length ns % 2 == 1)

abbrev pub across_last : List ℤ → ℕ → ℤ
across_last ns n = if n + 1 == length ns / 4 && has_last ns then number ns (4 * n + 4) else pos 0

unfoldable pub alternating_curves : Bool → Path → List ℤ → ℕ → Path
alternating_curves first path ns zero = path
alternating_curves first path ns (suc n) =
    let i = 4 * n in
    curve (alternating_curves first path ns n) (turned (way first n) (number ns i) (pos 0)) (pair ns (i + 1))
    (turned (not (way first n)) (number ns (i + 3)) (across_last ns n))

-- `rcurveline`: as many curves as leave a line behind them; `rlinecurve`: as many lines as leave a curve
abbrev pub curves_and_line : Path → List ℤ → Path
curves_and_line path ns =
    let count = (length ns - 2) / 6 in
    if nat_le 8 (length ns) then line (curves path ns count) (pair ns (6 * count)) else path

abbrev pub lines_and_curve : Path → List ℤ → Path
lines_and_curve path ns =
    let count = (length ns - 6) / 2 in
    if nat_le 8 (length ns) then curve_at (lines path ns count) ns (2 * count) else path

-- `flex`: two curves, and how flat they may be drawn
abbrev pub flex : Path → List ℤ → Option Path
flex path ns = if length ns == 13 then Some (curve_at (curve_at path ns 0) ns 6) else None

-- `hflex`: the second curve goes back by as much as the first one rose, and both begin, meet and end level
abbrev pub horizontal_flex : Path → List ℤ → Option Path
horizontal_flex path ns =
    let first = curve path (turned true (number ns 0) (pos 0)) (pair ns 1) (turned true (number ns 3) (pos 0)) in
    if length ns == 7
    then Some (curve first (turned true (number ns 4) (pos 0)) (turned true (number ns 5) (back (number ns 2)))
    (turned true (number ns 6) (pos 0))) else None

-- how far a second curve has come from the start of the first, at the second point that controls it
abbrev pub far_from : Point → Path → Point → Point → Point
far_from start path first second = to start (moved (moved path.point first) second)

-- `hflex1`: the second curve ends at the height at which the first one began
abbrev pub horizontal_flex_1 : Path → List ℤ → Option Path
horizontal_flex_1 path ns =
    let first = curve path (pair ns 0) (pair ns 2) (turned true (number ns 4) (pos 0)) in
    let far = far_from path.point first (turned true (number ns 5) (pos 0)) (pair ns 6) in
    if length ns == 9
    then Some (curve first (turned true (number ns 5) (pos 0)) (pair ns 6) (turned true (number ns 8) (back far.y))) else None

-- `flex1`: the second curve ends level with the start, or above or below it: across the way on which both have come further
abbrev pub last_of_flex_1 : Point → ℤ → Point
last_of_flex_1 far last =
    if nat_lt (unsigned_abs far.y) (unsigned_abs far.x) then turned true last (back far.y) else turned false last (back far.x)

abbrev pub flex_1 : Path → List ℤ → Option Path
flex_1 path ns =
    let first = curve_at path ns 0 in
    let far = far_from path.point first (pair ns 6) (pair ns 8) in
    if length ns == 11 then Some (curve first (pair ns 6) (pair ns 8) (last_of_flex_1 far (number ns 10))) else None

-- an operator of two bytes, by the second
unfoldable pub flexed : ℕ → Path → List ℤ → Option Path
flexed operator path ns =
    if operator == 34 then horizontal_flex path ns
    else if operator == 35 then flex path ns
    else if operator == 36 then horizontal_flex_1 path ns
    else if operator == 37 then flex_1 path ns else Some path

-- `hmoveto`, `vmoveto` and `rmoveto`: by their last number, or their last two
abbrev pub move_from : ℕ → Path → List ℤ → Option Path
move_from operator path ns =
    let last = length ns - 1 in
    if length ns == 0 then None
    else if operator == 22 then Some (move_by path (turned true (number ns last) (pos 0)))
    else if operator == 4 then Some (move_by path (turned false (number ns last) (pos 0)))
    else if last == 0 then None else Some (move_by path (record { x = number ns (last - 1); y = number ns last }))

-- an operator of one byte that draws
unfoldable pub drawn_by : ℕ → Path → List ℤ → Path
drawn_by operator path ns =
    if operator == 5 then lines path ns (length ns / 2)
    else if operator == 6 then alternating_lines true path ns (length ns)
    else if operator == 7 then alternating_lines false path ns (length ns)
    else if operator == 8 then curves path ns (length ns / 6)
    else if operator == 24 then curves_and_line path ns
    else if operator == 25 then lines_and_curve path ns
    else if operator == 26 then parallel_curves false path ns ((length ns - length ns % 2) / 4)
    else if operator == 27 then parallel_curves true path ns ((length ns - length ns % 2) / 4)
    else if operator == 30 then alternating_curves false path ns (length ns / 4)
    else if operator == 31 then alternating_curves true path ns (length ns / 4) else path

unfoldable pub drawn : ℕ → Path → List ℤ → Option Path
drawn operator path ns =
    if operator == 4 || (operator == 21 || operator == 22) then move_from operator path ns else Some (drawn_by operator path ns)

-- of so many numbers the last one, and the numbers where one of them grows
abbrev pub last : List ℤ → ℕ → Option ℤ
last ns count = if count == 0 then None else Some (number ns (count - 1))

abbrev pub grown : List ℤ → ℕ → ℕ → ℤ → List ℤ
grown ns count place by =
    if nat_lt place count then slice_set ns place (saturate_signed w32 (number ns place +ℤ by)) else ns

-- how many stem hints there are with those that so many numbers say, two each; no more than 32 bits hold
abbrev pub stems_behind : ℕ → ℕ → ℕ
stems_behind stems count = min (stems + count / 2) (2 ^ 32 - 1)

-- how many bytes a mask of stem hints has, a bit for each, unless that is known from a mask before; and what follows the mask, which
-- is none where it is cut short
abbrev pub mask_size : Option ℕ → ℕ → ℕ
mask_size known stems = unwrap_or known ((stems + 7) / 8)

abbrev pub behind_mask : List ℕ → ℕ → List ℕ
behind_mask code size = if nat_le size (length code) then drop size code else code
