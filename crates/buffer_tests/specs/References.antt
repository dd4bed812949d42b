-- What callers write through a buffer's references.
use Rattle.std.specs.Prelude.{ℕ, ◌-◌, List, length, slice_set, slice_index_or, pos}
use Rattle.std.specs.Option.{option_map}
use Rattle.rb_glyph.specs.declared.info.hb_glyph_info_t.{hb_glyph_info_t}
use Rattle.rb_glyph.specs.declared.position.GlyphPosition.{GlyphPosition}
use Rattle.glyph_lists.specs.Clusters.{zero_glyph}
use Rattle.shaping_buffer.specs.Positions.{zero_position}
use Rattle.shaping_buffer.specs.State.{State, place_of}

-- mask 5 for the glyph at this place, and nothing else changes
abbrev pub mask_at : ℕ → List hb_glyph_info_t → List hb_glyph_info_t
mask_at i l = slice_set l i (record (slice_index_or l i zero_glyph) { mask = 5 })

-- an advance of 5 for the glyph at this place, and nothing else changes
abbrev pub advance_at : ℕ → List GlyphPosition → List GlyphPosition
advance_at i l = slice_set l i (record (slice_index_or l i zero_position) { x_advance = pos 5 })

abbrev pub mask_in_out : ℕ → State → State
mask_in_out i s = record s { out = mask_at i s.out }

abbrev pub mask_in_out_twice : ℕ → ℕ → State → State
mask_in_out_twice i j s = record s { out = mask_at j (mask_at i s.out) }

abbrev pub mask_in_input : ℕ → State → State
mask_in_input i s = record s { input = mask_at i s.input }

abbrev pub mask_of_last : State → State
mask_of_last s = record s { out = mask_at (length s.out - 1) s.out }

abbrev pub mask_ahead : ℕ → State → State
mask_ahead k s = record s { input = mask_at (place_of s k) s.input }

abbrev pub advance_in_positions : ℕ → State → State
advance_in_positions i s = record s { positions = option_map (advance_at i) s.positions }
