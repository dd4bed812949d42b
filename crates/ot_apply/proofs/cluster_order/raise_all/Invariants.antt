use Rattle.std.proofs.Common.{◌-◌}
use Rattle.ot_apply.proofs.RisingLemmas.{IsRaisedFrom}
use Rattle.ot_apply.proofs.cluster_order.raise_all.Given as goal

abbrev pub invariant-loop-place : goal.invariant-loop-place
invariant-loop-place l = IsRaisedFrom (l.place - 1) l.fn.infos l.infos
