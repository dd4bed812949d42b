-- Whole numbers of floats, as HarfBuzz rounds them, and which of two floats is the lesser.
use Rattle.std.specs.Prelude.{ℤ, negsuc, false, if◌then◌else◌}
use Rattle.std.specs.Int.{w32}
use Rattle.std.specs.Float.{floor, float_to_signed}
use Rattle.std.specs.Float.Ieee.{Float, add, le, binary32, fin}

-- one half
abbrev pub half : Float
half = fin false 1 (negsuc 0)

-- the whole number that is nearest, and the greater one between two: the whole part of half more; what is past 32 bits is the
-- nearest number of as many bits
abbrev pub rounded : Float → ℤ
rounded number = float_to_signed w32 (floor binary32 (add binary32 number half))

-- the lesser and the greater of two floats; the second one where they are not ordered
abbrev pub lesser : Float → Float → Float
lesser one other = if le one other then one else other

abbrev pub greater : Float → Float → Float
greater one other = if le other one then one else other
