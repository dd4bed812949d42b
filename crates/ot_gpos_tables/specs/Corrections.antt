-- Corrections of numbers: in pixels, or at a place in the variations of a font.
use Rattle.std.specs.Prelude.{ℕ, ℤ, List, Option, None, nat_eq, drop, if◌then◌else◌}
use Rattle.std.specs.Option.{option_map_or}
use Rattle.font_tables.specs.Bytes.{number_16, number_32, is_number}
use Rattle.ot_gpos_tables.specs.Devices.{device_delta}
use Rattle.ot_gpos_tables.specs.Instance.{x_delta, y_delta}
use Rattle.ot_gpos_tables.specs.declared.instance.Instance.{Instance}

-- the delta set that the table at an offset names, if it is a table of variations, which has the format 0x8000
unfoldable pub variation_index : List ℕ → ℕ → Option ℕ
variation_index table offset =
    if nat_eq offset 0 then None
    else if is_number (number_16 (drop offset table) 4) 0x8000 then number_32 (drop offset table) 0 else None

-- the correction by the table that an offset leads to, across and upwards
unfoldable pub x_correction : List ℕ → ℕ → Instance → ℤ
x_correction table offset instance =
    option_map_or (x_delta instance) (variation_index table offset)
    (device_delta table offset instance.scale.x_ppem instance.scale.x)

unfoldable pub y_correction : List ℕ → ℕ → Instance → ℤ
y_correction table offset instance =
    option_map_or (y_delta instance) (variation_index table offset)
    (device_delta table offset instance.scale.y_ppem instance.scale.y)
