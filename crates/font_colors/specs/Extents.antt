-- Boxes of what is drawn.
use Rattle.std.specs.Prelude.{Bool, ◌||◌}
use Rattle.std.specs.Float.Ieee.{Float, le, lt}
use Rattle.font_variations.specs.Rounding.{greater, lesser}
use Rattle.font_colors.specs.declared.extents.Extents.{Extents}

-- the least box around two
abbrev pub joined : Extents → Extents → Extents
joined one other = record {
  x_min = lesser one.x_min other.x_min;
  y_min = lesser one.y_min other.y_min;
  x_max = greater one.x_max other.x_max;
  y_max = greater one.y_max other.y_max;
}

-- what two boxes have in common
abbrev pub common : Extents → Extents → Extents
common one other = record {
  x_min = greater one.x_min other.x_min;
  y_min = greater one.y_min other.y_min;
  x_max = lesser one.x_max other.x_max;
  y_max = lesser one.y_max other.y_max;
}

-- whether a box has no width or no height
abbrev pub is_empty : Extents → Bool
is_empty e = le e.x_max e.x_min || le e.y_max e.y_min

-- whether a box is around nothing: it ends before it begins
abbrev pub is_void : Extents → Bool
is_void e = lt e.x_max e.x_min

-- the box around a point
abbrev pub box_at : Float → Float → Extents
box_at x y = record { x_min = x; y_min = y; x_max = x; y_max = y }
