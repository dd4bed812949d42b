use Rattle.std.proofs.Common.{arith}
use Rattle.script_indic.proofs.BaseLemmas.{base-none, base-over, searched-on}
use Rattle.script_indic.proofs.base.last_base.Goals as goal

pub loop-turn-preserved : goal.loop-turn-preserved
loop-turn-preserved c =
    searched-on c.args.syllable.now c.args.limit c.loop-turn.turn _ c.loop-turn.walk c.look_at-walk.result _
    c.look_at-walk.ensures (omega arith) (omega arith) c.loop-turn.invariant c.if-walk.false

pub returns-then-walk : goal.returns-then-walk
returns-then-walk c =
    base-over c.args.syllable.now c.args.limit c.loop-turn.turn _ c.loop-turn.walk c.look_at-walk.result _
    c.look_at-walk.ensures (omega arith) (omega arith) c.loop-turn.invariant c.if-walk.true

pub returns : goal.returns
returns c =
    base-none c.args.syllable.now c.args.limit c.loop-turn.turn c.loop-turn.walk _ c.loop-turn.invariant (omega arith)
