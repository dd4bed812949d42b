use Rattle.std.proofs.Common.{◌≡◌, ◌∙◌, sym, Some}
use Rattle.ot_contexts.specs.Asked.{asked_at}
use Rattle.ot_contexts.proofs.AskedLemmas.{asks}
use Rattle.ot_contexts.proofs.told.Numbers.is_next_apart.Goals as goal

pub returns-in-Some : goal.returns-in-Some
returns-in-Some c = λ other neighbours m p apart rule.
    let asked : asked_at c.args.is_chained c.args.table.now 0 ≡ Some c.in-Some.asked = rw c.in-Some.is at c.asked_next.ensures in
    apart p c.in-Some.asked (asks c.args.is_chained m c.args.table.now 0 c.in-Some.asked p asked rule)
    (sym c.is_other.ensures ∙ other)
