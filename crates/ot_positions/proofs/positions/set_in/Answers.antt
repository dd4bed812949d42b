use Rattle.std.proofs.Common.{refl, sym, arith}
use Rattle.shaping_buffer.specs.Positions.{zero_position}
use Rattle.ot_positions.proofs.WidthsLemmas.{changed_at_none, set-changed_at}
use Rattle.ot_positions.proofs.positions.set_in.Goals as goal

pub returns-then-place-positions : goal.returns-then-place-positions
returns-then-place-positions c =
    set-changed_at (λ _. c.args.position) c.args.place c.args.positions.now zero_position
    c.args.position (omega (arith, c.if-place-positions.true)) refl

pub returns-else-place-positions : goal.returns-else-place-positions
returns-else-place-positions c =
    sym (changed_at_none (λ _. c.args.position) c.args.place c.args.positions.now (omega (arith, c.if-place-positions.false)))
