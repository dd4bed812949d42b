use Rattle.std.proofs.Common.{sym}
use Rattle.ot_lookups.specs.SubtableKinds.{is_chained}
use Rattle.ot_contexts.proofs.MissedLemmas.{rule_fits-missed}
use Rattle.ot_contexts.proofs.context.covered_fit.Goals as goal

pub returns-clause-exact : goal.returns-clause-exact
returns-clause-exact c has some =
    let t = c.args.subtable.now in
    let cs = c.args.list.now.coverages.items in
    let next = c.in-Some.next in
    sym (rule_fits-missed c.args.ctx.now cs t.first_coverage (is_chained t.kind) t.table.now next (has next c.in-Some.is)
    c.in-Some-missed_next.ensures)
