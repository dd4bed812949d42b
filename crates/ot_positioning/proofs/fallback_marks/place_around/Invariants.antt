use Rattle.std.proofs.Common.{◌≡◌, ◌+◌, ◌-◌, IsSome}
use Rattle.shaping_buffer.specs.State.{State}
use Rattle.ot_positioning.specs.MarkPlacing.{ArePlaced}
use Rattle.ot_positioning.proofs.fallback_marks.place_around.Given as goal

-- where the items that are left are placed, all are
abbrev pub invariant-loop-place : goal.invariant-loop-place
invariant-loop-place g l = record {
  rest : l.buffer ≡ record l.fn.buffer { positions = l.buffer.positions };
  placed : IsSome l.buffer.positions;
  others : (new : State) → ArePlaced l.adjusts (l.fn.range.1 - l.place) l.place l.buffer l.marks new
      → ArePlaced l.adjusts (l.fn.range.1 - (l.fn.range.0 + 1)) (l.fn.range.0 + 1) l.fn.buffer l.initial.marks new;
}
