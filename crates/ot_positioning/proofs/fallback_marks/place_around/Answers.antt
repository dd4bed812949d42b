use Rattle.std.proofs.Common.{refl}
use Rattle.ot_positions.proofs.AdvanceLemmas.{rest_after}
use Rattle.ot_positioning.proofs.MarkLemmas.{placed_more, placed_none}
use Rattle.ot_positioning.proofs.fallback_marks.place_around.Goals as goal

pub loop-place-init : goal.loop-place-init
loop-place-init g c = record { rest = refl; placed = c.requires.placed; others = λ new rest. rest }

pub loop-place-preserved : goal.loop-place-preserved
loop-place-preserved g c = record {
  rest = rest_after c.args.buffer.now c.loop-place.buffer c.place_at.new.buffer _ c.loop-place.invariant.rest c.place_at.ensures.rest;
  placed = c.place_at.ensures.placed;
  others = λ new rest.
      c.loop-place.invariant.others new
      (placed_more c.args.adjusts c.loop-place.place c.args.range.1 c.loop-place.buffer c.place_at.new.buffer new c.loop-place.marks
      c.place_at.new.marks c.loop-place-test.true c.in_ok-place_at.ensures.is rest);
}

pub returns-clause-is : goal.returns-clause-is
returns-clause-is g c = record {
  marks = c.in_ok-marks.marks;
  begun = c.in_ok-marks.ensures;
  placed = c.loop-place.invariant.others c.loop-place.buffer
      (placed_none c.args.adjusts c.loop-place.place c.args.range.1 c.loop-place.buffer c.loop-place.marks c.loop-place-test.false);
}

pub returns-in_err-place_at-clause-rest : goal.returns-in_err-place_at-clause-rest
returns-in_err-place_at-clause-rest g c =
    rest_after c.args.buffer.now c.loop-place.buffer c.place_at.new.buffer _ c.loop-place.invariant.rest c.place_at.ensures.rest
