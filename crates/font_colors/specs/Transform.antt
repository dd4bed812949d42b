-- Affine transforms, in floats of 32 bits, and sines and cosines, in floats of 64.
use Rattle.std.specs.Prelude.{ℕ, zero, suc, pos, negsuc, false, ◌&&◌, ◌+◌, ◌*◌, if◌then◌else◌}
use Rattle.std.specs.Float.{float_zero, float_one, floor, round_to_format, two_to}
use Rattle.std.specs.Float.Ieee.{Float, add, div, eq, fin, mul, neg, of_int, sub, binary32, binary64}
use Rattle.font_variations.specs.Rounding.{half}
use Rattle.font_colors.specs.Extents.{joined}
use Rattle.font_colors.specs.declared.extents.Extents.{Extents}
use Rattle.font_colors.specs.declared.transform.Transform.{Transform}

-- a number of each of two, times a factor each
abbrev pub weighed : Float → Float → Float → Float → Float
weighed a x b y = add binary32 (mul binary32 a x) (mul binary32 b y)

-- a transform after another one: the product of their matrices
unfoldable pub after : Transform → Transform → Transform
after t other = record {
  xx = weighed other.xx t.xx other.yx t.xy;
  yx = weighed other.xx t.yx other.yx t.yy;
  xy = weighed other.xy t.xx other.yy t.xy;
  yy = weighed other.xy t.yx other.yy t.yy;
  dx = add binary32 (weighed other.dx t.xx other.dy t.xy) t.dx;
  dy = add binary32 (weighed other.dx t.yx other.dy t.yy) t.dy;
}

-- where a transform brings a point, as a box
abbrev pub x_at : Transform → Float → Float → Float
x_at t x y = add binary32 (weighed t.xx x t.xy y) t.dx

abbrev pub y_at : Transform → Float → Float → Float
y_at t x y = add binary32 (weighed t.yx x t.yy y) t.dy

abbrev pub point : Transform → Float → Float → Extents
point t x y = record { x_min = x_at t x y; y_min = y_at t x y; x_max = x_at t x y; y_max = y_at t x y }

-- the least box around the corners of a box, where a transform brings them
abbrev pub transformed : Transform → Extents → Extents
transformed t e =
    joined (joined (joined (point t e.x_min e.y_min) (point t e.x_min e.y_max)) (point t e.x_max e.y_min))
    (point t e.x_max e.y_max)

-- ---- sines and cosines

-- π to 24 bits, as HarfBuzz has it; a quarter of a circle to 33 bits, and the rest of it
abbrev pub pi : Float
pi = fin false 0xC90FDB (negsuc 21)

abbrev pub quarter : Float
quarter = fin false 0x6487ED51 (negsuc 29)

abbrev pub rest_of_quarter : Float
rest_of_quarter = fin false 0x10B4611A626331 (negsuc 85)

-- a term of the series of an angle: the one before, of the other sign, times the square of the angle, through two numbers in a row
unfoldable pub term : Float → Float → ℕ → ℕ → Float
term angle first from zero = first
term angle first from (suc k) =
    let number = of_int binary64 (pos (from + 2 * k)) in
    div binary64 (mul binary64 (neg (term angle first from k)) (mul binary64 angle angle))
    (mul binary64 number (add binary64 number float_one))

-- the sum of the first term and so many more
unfoldable pub series : Float → Float → ℕ → ℕ → Float
series angle first from zero = first
series angle first from (suc k) = add binary64 (series angle first from k) (term angle first from (suc k))

-- the sine and the cosine of at most an eighth of a circle
abbrev pub near_sine : Float → Float
near_sine angle = series angle angle 2 8

abbrev pub near_cosine : Float → Float
near_cosine angle = series angle float_one 1 8

-- an angle is whole quarters of a circle and a rest; four quarters are none
abbrev pub quarters : Float → Float
quarters angle = floor binary64 (add binary64 (div binary64 angle quarter) half)

abbrev pub rest : Float → Float
rest angle =
    sub binary64 (sub binary64 angle (mul binary64 (quarters angle) quarter)) (mul binary64 (quarters angle) rest_of_quarter)

abbrev pub quadrant : Float → Float
quadrant angle =
    sub binary64 (quarters angle) (mul binary64 (two_to 2) (floor binary64 (div binary64 (quarters angle) (two_to 2))))

-- the sine and the cosine of an angle in a quadrant, by those of its rest: those of an angle a quarter greater are the cosine, and the
-- sine the other way
abbrev pub sine_in : Float → Float → Float → Float
sine_in quadrant sine cosine =
    if eq quadrant float_zero then sine else if eq quadrant float_one then cosine
    else if eq quadrant (two_to 1) then neg sine else neg cosine

abbrev pub cosine_in : Float → Float → Float → Float
cosine_in quadrant sine cosine =
    if eq quadrant float_zero then cosine else if eq quadrant float_one then neg sine
    else if eq quadrant (two_to 1) then neg cosine else sine

unfoldable pub wide_sine : Float → Float
wide_sine angle = sine_in (quadrant angle) (near_sine (rest angle)) (near_cosine (rest angle))

unfoldable pub wide_cosine : Float → Float
wide_cosine angle = cosine_in (quadrant angle) (near_sine (rest angle)) (near_cosine (rest angle))

-- those of so many halves of a circle, and the tangent
abbrev pub sine : Float → Float
sine halves = round_to_format binary32 (wide_sine (mul binary32 halves pi))

abbrev pub cosine : Float → Float
cosine halves = round_to_format binary32 (wide_cosine (mul binary32 halves pi))

abbrev pub tangent : Float → Float
tangent halves =
    round_to_format binary32 (div binary64 (wide_sine (mul binary32 halves pi)) (wide_cosine (mul binary32 halves pi)))

-- ---- what a paint does

-- the transform that scales, and a transform after it
abbrev pub scaling : Float → Float → Transform
scaling x y = record { xx = x; yx = float_zero; xy = float_zero; yy = y; dx = float_zero; dy = float_zero }

unfoldable pub scaled : Transform → Float → Float → Transform
scaled t x y = if eq x float_one && eq y float_one then t else after t (scaling x y)

-- the transform that moves, and a transform after it
abbrev pub moving : Float → Float → Transform
moving x y = record { xx = float_one; yx = float_zero; xy = float_zero; yy = float_one; dx = x; dy = y }

unfoldable pub translated : Transform → Float → Float → Transform
translated t x y = if eq x float_zero && eq y float_zero then t else after t (moving x y)

-- the transform that turns to the left by so many halves of a circle, and a transform after it
abbrev pub turning : Float → Transform
turning angle = record {
  xx = cosine angle;
  yx = sine angle;
  xy = neg (sine angle);
  yy = cosine angle;
  dx = float_zero;
  dy = float_zero;
}

unfoldable pub rotated : Transform → Float → Transform
rotated t angle = if eq angle float_zero then t else after t (turning angle)

-- the transform that slants the two axes, and a transform after it
abbrev pub slanting : Float → Float → Transform
slanting x y = record {
  xx = float_one;
  yx = tangent y;
  xy = tangent (neg x);
  yy = float_one;
  dx = float_zero;
  dy = float_zero;
}

unfoldable pub skewed : Transform → Float → Float → Transform
skewed t x y = if eq x float_zero && eq y float_zero then t else after t (slanting x y)
