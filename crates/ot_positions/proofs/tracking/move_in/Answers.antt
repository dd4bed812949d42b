use Rattle.std.proofs.Common.{sym, arith}
use Rattle.shaping_buffer.specs.Positions.{zero_position}
use Rattle.ot_positions.specs.Tracking.{moved_apart}
use Rattle.ot_positions.proofs.WidthsLemmas.{changed_at_none, set-changed_at}
use Rattle.ot_positions.proofs.tracking.move_in.Goals as goal

pub returns-then-place-positions : goal.returns-then-place-positions
returns-then-place-positions c =
    set-changed_at (moved_apart c.args.space.now) c.args.place c.args.positions.now zero_position
    c.move_apart.new.position (omega (arith, c.if-place-positions.true)) c.move_apart.ensures

pub returns-else-place-positions : goal.returns-else-place-positions
returns-else-place-positions c =
    sym (changed_at_none (moved_apart c.args.space.now) c.args.place c.args.positions.now (omega (arith, c.if-place-positions.false)))
