-- Adjustments of single glyphs, at a glyph (OpenType, "Single adjustment").
use Rattle.std.specs.Prelude.{ℕ, Option}
use Rattle.std.specs.Option.{option_map, option_map_or}
use Rattle.rb_common.specs.Direction.{is_horizontal}
use Rattle.shaping_buffer.specs.State.{State}
use Rattle.ot_gpos_tables.specs.Pairs.{single_values}
use Rattle.ot_gpos_tables.specs.Values.{moved}
use Rattle.ot_gpos_tables.specs.declared.values.ValueRecord.{ValueRecord}
use Rattle.ot_attachments.specs.Places.{behind}
use Rattle.ot_attachments.specs.Placing.{changed_at, on_positions}
use Rattle.ot_gpos.specs.Visit.{Visit}

-- the record that a subtable has for its glyph
abbrev pub record_of : Visit → Option ValueRecord
record_of visit = single_values visit.subtable.table.now visit.index

-- the glyph is moved by a record, and its advance along the line changed
abbrev pub adjusted : Visit → ValueRecord → State → State
adjusted visit values s =
    on_positions
    (changed_at (moved visit.subtable.table.now visit.instance (is_horizontal s.direction) values) visit.place) s

-- A subtable that has a record for its glyph moves the glyph by it, and another does nothing.
abbrev pub single : Visit → State → State
single visit s = option_map_or (λ values. adjusted visit values s) (record_of visit) s

-- and where the lookup goes on
abbrev pub single_next : Visit → Option ℕ
single_next visit = option_map (λ values. behind visit.place) (record_of visit)
