-- The part of a glyph in a ligature, in its ligature properties.
use Rattle.std.specs.Prelude.{ℕ, ◌*◌, ◌/◌, ◌%◌, ◌&&◌, ◌||◌, ◌==◌, Bool, not, if◌then◌else◌, bit_and, bit_or}
use Rattle.rb_glyph.specs.declared.info.hb_glyph_info_t.{hb_glyph_info_t}
use Rattle.rb_glyph.specs.Fields.{field}
use Rattle.ot_lookups.specs.LookupProps.{props, share}

-- the ligature properties
abbrev pub lig_props : hb_glyph_info_t → ℕ
lig_props g = field g.var1 16 8

-- the number of the ligature that a glyph is or belongs to (bits 5 to 7)
abbrev pub ligature_id : hb_glyph_info_t → ℕ
ligature_id g = lig_props g / 32

-- the component that a mark belongs to (bits 0 to 3); the ligature itself (bit 4) belongs to none
abbrev pub ligature_component : hb_glyph_info_t → ℕ
ligature_component g = if share (lig_props g) 16 then 0 else bit_and (lig_props g) 15

-- how many components a glyph has: a ligature as many as its bits 0 to 3 say, and any other glyph one
abbrev pub component_count : hb_glyph_info_t → ℕ
component_count g = if share (props g) 4 && share (lig_props g) 16 then bit_and (lig_props g) 15 else 1

-- the ligature properties of a ligature
abbrev pub ligature_properties : ℕ → ℕ → ℕ
ligature_properties id components = bit_or (bit_or (id % 8 * 32) 16) (bit_and components 15)

-- the ligature properties of a mark
abbrev pub mark_properties : ℕ → ℕ → ℕ
mark_properties id component = bit_or (id % 8 * 32) (bit_and component 15)

-- whether a glyph may stand in one match with the first: of a mark's match the glyphs are of the same component of the same
-- ligature, and else they are of no component, or of the first glyph's ligature
unfoldable pub may_join : hb_glyph_info_t → hb_glyph_info_t → Bool
may_join first g =
    if not (ligature_id first == 0) && not (ligature_component first == 0)
    then (ligature_id first == ligature_id g) && (ligature_component first == ligature_component g)
    else (ligature_id g == 0) || (ligature_component g == 0) || (ligature_id g == ligature_id first)
