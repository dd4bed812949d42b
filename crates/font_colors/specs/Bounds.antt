-- How far paints reach, and what a composite mode makes of two (OpenType specification, "COLR - Color Table", "Format 32:
-- PaintComposite").
use Rattle.std.specs.Prelude.{ℕ, ◌||◌, nat_eq, if◌then◌else◌}
use Rattle.font_colors.specs.Extents.{common, is_empty, joined}
use Rattle.font_colors.specs.declared.bounds.Bounds.{Bounds}
use Rattle.font_colors.specs.declared.bounds.Status.{Status}
use Rattle.font_colors.specs.declared.bounds.Status.TheVariants.{Bounded, Empty, Unbounded}
use Rattle.font_colors.specs.declared.extents.Extents.{Extents}

-- the bounds of a box
abbrev pub bounds_of : Extents → Bounds
bounds_of extents = record { status = if is_empty extents then Empty else Bounded; extents = extents }

-- the same box, of another status
abbrev pub with_status : Bounds → Status → Bounds
with_status b status = record { status = status; extents = b.extents }

-- what one of two reaches to: by the status of one, where the other is bounded
abbrev pub united_bounded : Status → Bounds → Bounds → Bounds
united_bounded Unbounded one other = one
united_bounded Bounded one other = record { status = Bounded; extents = joined one.extents other.extents }
united_bounded Empty one other = other

-- by the status of the other
abbrev pub united_by : Status → Bounds → Bounds → Bounds
united_by Unbounded one other = with_status one Unbounded
united_by Bounded one other = united_bounded one.status one other
united_by Empty one other = one

abbrev pub united : Bounds → Bounds → Bounds
united one other = united_by other.status one other

-- what both reach to: by the status of one, where the other is bounded
abbrev pub intersected_bounded : Status → Bounds → Bounds → Bounds
intersected_bounded Unbounded one other = other
intersected_bounded Bounded one other = bounds_of (common one.extents other.extents)
intersected_bounded Empty one other = one

-- by the status of the other
abbrev pub intersected_by : Status → Bounds → Bounds → Bounds
intersected_by Unbounded one other = one
intersected_by Bounded one other = intersected_bounded one.status one other
intersected_by Empty one other = with_status one Empty

abbrev pub intersected : Bounds → Bounds → Bounds
intersected one other = intersected_by other.status one other

-- a backdrop with a source: nothing for clear, the source for source and source out, the backdrop for destination and destination
-- out, both for source in and destination in, and else what one of them reaches to
abbrev pub composed : Bounds → Bounds → ℕ → Bounds
composed backdrop source mode =
    if nat_eq mode 0 then with_status backdrop Empty
    else if nat_eq mode 1 || nat_eq mode 7 then source
    else if nat_eq mode 2 || nat_eq mode 8 then backdrop
    else if nat_eq mode 5 || nat_eq mode 6 then intersected backdrop source else united backdrop source
