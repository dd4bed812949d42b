-- The subtables of a lookup.
use Rattle.std.specs.Prelude.{◌&&◌, List, [], length, nat_le, slice_range, if◌then◌else◌}
use Rattle.ot_lookups.specs.declared.lookup_list.Lookup.{Lookup}
use Rattle.ot_lookups.specs.declared.subtable.Subtable.{Subtable}

-- the subtables of a lookup: those of a list between its two numbers, or none where these do not rise within the list
abbrev pub subtables_of : List Subtable → Lookup → List Subtable
subtables_of subtables lookup =
    if nat_le lookup.first lookup.last && nat_le lookup.last (length subtables)
    then slice_range subtables lookup.first lookup.last else []
