use Rattle.std.proofs.Common.{sym, arith}
use Rattle.shaping_buffer.specs.Positions.{zero_position}
use Rattle.ot_positions.specs.Widths.{without_advance}
use Rattle.ot_positions.proofs.WidthsLemmas.{changed_at_none, set-changed_at}
use Rattle.ot_positions.proofs.widths.narrow.Goals as goal

pub returns-then-place-positions : goal.returns-then-place-positions
returns-then-place-positions c =
    set-changed_at (without_advance c.args.adjusts) c.args.place c.args.positions.now zero_position
    c.zero_mark_width.new.position (omega (arith, c.if-place-positions.true)) c.zero_mark_width.ensures

pub returns-else-place-positions : goal.returns-else-place-positions
returns-else-place-positions c =
    sym (changed_at_none (without_advance c.args.adjusts) c.args.place c.args.positions.now (omega (arith, c.if-place-positions.false)))
