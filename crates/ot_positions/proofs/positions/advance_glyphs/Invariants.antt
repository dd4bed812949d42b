use Rattle.std.proofs.Common.{◌≡◌, Bool, IsSome}
use Rattle.std.specs.Prelude.{IfSome}
use Rattle.ot_positions.proofs.AdvanceLemmas.{AreAdvancedTo}
use Rattle.ot_positions.proofs.positions.advance_glyphs.Given as goal

-- the glyphs before the place have their advances
abbrev pub invariant-loop-i : goal.invariant-loop-i
invariant-loop-i g l = record {
  rest : l.buffer ≡ record l.fn.buffer { positions = l.buffer.positions };
  placed : IsSome l.buffer.positions;
  advanced : (lacks : Bool) → IfSome l.buffer.positions (AreAdvancedTo (g.F.FontFunctions.may_advance l.font) lacks l.i l.fn.buffer.input);
}
