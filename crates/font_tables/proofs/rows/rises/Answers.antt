use Rattle.std.proofs.Common.{◌<◌, ◌≤◌, arith, sym, ◌∙◌}
use Rattle.font_tables.proofs.RowLemmas.{not_reached}
use Rattle.font_tables.proofs.rows.rises.Goals as goal

-- a row of which a key is highest so far would reach it, if the rows rose
pub returns-in_default-clause-seen : goal.returns-in_default-clause-seen
returns-in_default-clause-seen g c = λ there rise.
    let above : 0 < c.loop-row.before = omega arith in
    let seen = c.loop-row.invariant.seen above in
    let order : seen.0 ≤ c.loop-row.row = omega (arith, seen.1) in
    let reached = rise seen.0 c.loop-row.row c.loop-row.before order c.loop-row-test.true seen.2 in
    absurd (not_reached (g.R.Rows.last_of c.args.rows.now) c.loop-row.before c.loop-row.row c.in-Some.last
    (sym c.last.ensures ∙ c.in-Some.is) c.if-before-last.false reached)
