use Rattle.std.proofs.Common.{arith}
use Rattle.ot_map.proofs.MergedLemmas.{take-merged, IsMergedTo-init}
use Rattle.ot_map.proofs.stage_lookups.put_together.Goals as goal

pub loop-place-init : goal.loop-place-init
loop-place-init c = (omega arith, λ rises. IsMergedTo-init c.args.lookups.now)

pub loop-place-preserved : goal.loop-place-preserved
loop-place-preserved c =
    let few = c.put_next-len.ensures.few in
    (omega arith, λ rises. c.put_next-len.ensures.is c.args.lookups.now rises (c.loop-place.invariant.1 rises))

pub returns-clause-is : goal.returns-clause-is
returns-clause-is c = λ rises. take-merged _ _ _ _ (c.loop-place.invariant.1 rises) (omega arith)
