use Rattle.std.proofs.Common.{take}
use Rattle.std.specs.List.{All, zip}
use Rattle.glyph_text.specs.TextReading.{FitsItsFields}
use Rattle.shaping_uses.proofs.comparing.glyphs_fit.Given as goal

-- the numbers of the glyphs so far fit
abbrev pub invariant-loop-i : goal.invariant-loop-i
invariant-loop-i l = All FitsItsFields (take l.i (zip l.glyphs l.positions))
