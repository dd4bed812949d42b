use Rattle.ot_positioning.specs.Stays.{Stays}
use Rattle.ot_positioning.proofs.lookups.apply_positions.Given as goal

abbrev pub invariant-loop-planned : goal.invariant-loop-planned
invariant-loop-planned g l = Stays l.fn.buffer l.buffer
