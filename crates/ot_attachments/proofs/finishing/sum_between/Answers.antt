use Rattle.std.proofs.Common.{arith, rules}
use Rattle.ot_attachments.proofs.OffsetsLemmas.{to_z-across, to_z-down}
use Rattle.ot_attachments.proofs.finishing.sum_between.Goals as goal

pub loop-place-preserved : goal.loop-place-preserved
loop-place-preserved c = record {
  behind = omega (arith, c.loop-place.invariant.behind);
  x = to_z-across c.args.from c.loop-place.place c.loop-place.x-bits c.args.positions.now c.loop-place.invariant.behind (search rules)
      c.loop-place.invariant.x;
  y = to_z-down c.args.from c.loop-place.place c.loop-place.y-bits c.args.positions.now c.loop-place.invariant.behind (search rules)
      c.loop-place.invariant.y;
}
