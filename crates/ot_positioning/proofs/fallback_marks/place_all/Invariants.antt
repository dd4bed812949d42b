use Rattle.std.proofs.Common.{◌≡◌, ◌-◌, false, length, IsSome}
use Rattle.shaping_buffer.specs.KeepsClusters.{KeepsClusters}
use Rattle.shaping_buffer.specs.State.{State}
use Rattle.ot_positioning.specs.MarkPlacing.{AreDone}
use Rattle.ot_positioning.proofs.fallback_marks.place_all.Given as goal

-- where the items that are left are done, all are
abbrev pub invariant-loop-place : goal.invariant-loop-place
invariant-loop-place g l = record {
  closed : l.buffer.have_output ≡ false;
  placed : IsSome l.buffer.positions;
  keeps : KeepsClusters l.fn.buffer l.buffer;
  same_length : length l.buffer.input ≡ length l.fn.buffer.input;
  rest : (new : State)
      → AreDone (g.F.FontFunctions.may_advance l.font) l.line l.adjusts (length l.fn.buffer.input - l.place) l.place l.buffer new
      → AreDone (g.F.FontFunctions.may_advance l.font) l.line l.adjusts (length l.fn.buffer.input) 0 l.fn.buffer new;
}
