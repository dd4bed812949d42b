use Rattle.std.proofs.Common.{arith}
use Rattle.script_letters.proofs.ThaiLemmas.{above_more}
use Rattle.script_letters.proofs.thai.sara_am.run_start.Goals as goal

pub loop-start-preserved : goal.loop-start-preserved
loop-start-preserved c = (
  omega arith,
  above_more c.args.infos.now c.loop-start.start c.args.end _ _ (omega arith) (omega arith) c.is_above_base.ensures
      c.if-is_above_base.true c.loop-start.invariant.1,
)
