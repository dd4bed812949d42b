use Rattle.std.proofs.Common.{◌≡◌, true, IsSome}
use Rattle.std.specs.Prelude.{IfSome}
use Rattle.ot_positions.specs.FontPositions.{AreTheFonts}
use Rattle.ot_positions.proofs.AdvanceLemmas.{AreAdvancedTo}
use Rattle.ot_positions.proofs.positions.place_glyphs.Given as goal

-- the glyphs before the place have their advances
abbrev pub invariant-loop-i : goal.invariant-loop-i
invariant-loop-i g l = record {
  rest : l.buffer ≡ record l.fn.buffer { positions = l.buffer.positions };
  placed : IsSome l.buffer.positions;
  kept : AreTheFonts (g.F.FontFunctions.may_advance l.positions.font.now) l.positions.is_horizontal l.positions.kept;
  font : l.positions.font ≡ l.fn.positions.font;
  direction : l.positions.is_horizontal ≡ l.fn.positions.is_horizontal;
  advanced : l.fn.positions.is_horizontal ≡ true → IfSome l.buffer.positions
      (AreAdvancedTo (g.F.FontFunctions.may_advance l.fn.positions.font.now) l.has_spaces l.i l.fn.buffer.input);
}
