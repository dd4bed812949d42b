-- What can be read back from a text.
use Rattle.std.specs.Prelude.{ℕ, ◌+◌, ◌^◌, ◌<◌, ◌≤◌, ℤ, nat_abs, bit_and}
use Rattle.rb_glyph.specs.declared.flag_sets.SerializeFlags.{SerializeFlags}
use Rattle.rb_glyph.specs.declared.flag_sets.TheConstants.SerializeFlags.{NO_GLYPH_NAMES, GLYPH_FLAGS}
use Rattle.rb_glyph.specs.declared.glyph_flag.TheConstants.{DEFINED}
use Rattle.rb_glyph.specs.declared.info.hb_glyph_info_t.{hb_glyph_info_t}
use Rattle.rb_glyph.specs.declared.position.GlyphPosition.{GlyphPosition}

-- `NO_GLYPH_NAMES` and `GLYPH_FLAGS`, and nothing else
abbrev pub numbers_and_flags : SerializeFlags
numbers_and_flags = record { 0 = NO_GLYPH_NAMES.0 + GLYPH_FLAGS.0 }

-- what a text under these flags says of a glyph
pub record Told : Type 0 where
  pub glyph_id : ℕ
  pub cluster : ℕ
  pub x_offset : ℤ
  pub y_offset : ℤ
  pub x_advance : ℤ
  pub y_advance : ℤ
  pub glyph_flags : ℕ

abbrev pub told_of : hb_glyph_info_t × GlyphPosition → Told
told_of g = record {
  glyph_id = g.0.glyph_id;
  cluster = g.0.cluster;
  x_offset = g.1.x_offset;
  y_offset = g.1.y_offset;
  x_advance = g.1.x_advance;
  y_advance = g.1.y_advance;
  glyph_flags = bit_and g.0.mask DEFINED;
}

-- the glyph's numbers fit the 32 bits that they have in every buffer
pub record FitsItsFields (g : hb_glyph_info_t × GlyphPosition) : Type 0 where
  pub glyph_id : g.0.glyph_id < 2 ^ 32
  pub cluster : g.0.cluster < 2 ^ 32
  pub x_offset : nat_abs g.1.x_offset ≤ 2 ^ 31
  pub y_offset : nat_abs g.1.y_offset ≤ 2 ^ 31
  pub x_advance : nat_abs g.1.x_advance ≤ 2 ^ 31
  pub y_advance : nat_abs g.1.y_advance ≤ 2 ^ 31
