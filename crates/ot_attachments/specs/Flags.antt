-- The glyph flags that positioning adds, and what it leaves as it is.
use Rattle.std.specs.Prelude.{◌≡◌, ℕ, ◌/◌, ◌&&◌, Some, None, false, List, map, length, nat_le, nat_lt, bit_or, slice_index_or, if◌then◌else◌}
use Rattle.std.specs.Int.{bit_at}
use Rattle.rb_glyph.specs.declared.info.hb_glyph_info_t.{hb_glyph_info_t}
use Rattle.shaping_buffer.specs.State.{HasPositions, State}
use Rattle.shaping_buffer.specs.ClusterStep.{unsafe_to_break, unsafe_to_concat}
use Rattle.ot_lookups.specs.LookupProps.{zero_glyph}

-- a glyph without its flags of unsafe breaks and joins, the two lowest bits of its mask
unfoldable pub without_flags : hb_glyph_info_t → hb_glyph_info_t
without_flags g = record g { mask = g.mask / 4 }

-- What positioning leaves as it is: all but positions, those flags, the scratch flags, and whether shaping failed. Two buffers of
-- which this is the same differ in nothing else.
unfoldable pub untouched : State → State
untouched s = record s {
  input = map without_flags s.input;
  positions = None;
  scratch_flags = 0;
  shaping_failed = false;
}

-- the mask of the glyph at a place
abbrev pub mask_at : List hb_glyph_info_t → ℕ → ℕ
mask_at gs k = (slice_index_or gs k zero_glyph).mask

-- no bit of a mask is taken away
abbrev pub KeepsBits : List hb_glyph_info_t → List hb_glyph_info_t → Type 0
KeepsBits old new = (k bit : ℕ) → bit_at (mask_at old k) bit ≡ 1 → bit_at (mask_at new k) bit ≡ 1

-- What each step of positioning keeps: positions stay on, all that is untouched stays, and so does each bit of a mask.
pub record KeepsText (old new : State) : Type 0 where
  pub placed : HasPositions new
  pub rest : untouched new ≡ untouched old
  pub flags : KeepsBits old.input new.input

-- glyphs from a place up to another are unsafe to break, where the range begins within the glyphs
unfoldable pub break_marked : ℕ → ℕ → State → State
break_marked from to s =
    if nat_le from to && nat_le from (length s.input) then unsafe_to_break (Some from) (Some to) s else s

-- they are unsafe to concatenate, where there are any
unfoldable pub concat_marked : ℕ → ℕ → State → State
concat_marked from to s =
    if nat_lt from to && nat_le from (length s.input) then unsafe_to_concat (Some from) (Some to) s else s

-- there are glyphs that are attached to others (bit 3 of the scratch flags)
unfoldable pub attachments_marked : State → State
attachments_marked s = record s { scratch_flags = bit_or s.scratch_flags 8 }
