use Rattle.font_tables.proofs.RowLemmas.{first_below-some, first_below-none}
use Rattle.std.proofs.Common.{◌≡◌, ◌<◌, sym, arith}
use Rattle.font_tables.proofs.rows.bisect.Goals as goal

pub returns-then-low-count-clause-is : goal.returns-then-low-count-clause-is
returns-then-low-count-clause-is g c =
    let found : c.loop-low.low ≡ c.loop-low.high = omega arith in
    let inside : c.loop-low.low < c.args.count = omega arith in
    let reached = c.loop-low.invariant.behind (omega arith) in
    sym (first_below-some _ _ _ inside (rw (← found) at reached) c.loop-low.invariant.before)

pub returns-else-low-count-clause-is : goal.returns-else-low-count-clause-is
returns-else-low-count-clause-is g c =
    let end : c.loop-low.low ≡ c.args.count = omega arith in
    sym (first_below-none _ _ (rw end at c.loop-low.invariant.before))
