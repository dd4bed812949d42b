-- Places on a line while glyphs are written: they fit 128 bits with room to spare.
use Rattle.std.specs.Prelude.{◌≤◌, ◌^◌, nat_abs}
use Rattle.glyph_text.specs.declared.parts.Pen.{Pen}

-- neither coordinate is further from 0 than 2^96
pub record IsNear (p : Pen) : Type 0 where
  pub x : nat_abs p.x ≤ 2 ^ 96
  pub y : nat_abs p.y ≤ 2 ^ 96
