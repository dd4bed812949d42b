use Rattle.std.proofs.Common.{◌∙◌, sym, ap}
use Rattle.std.specs.Prelude.{option_copied}
use Rattle.ot_contexts.proofs.MatchLemmas.{ligature_at-other}
use Rattle.ot_substitution.proofs.substitution.ligature_at.Goals as goal

pub returns-in-Some-clause-is : goal.returns-in-Some-clause-is
returns-in-Some-clause-is c some =
    let table = sym c.table_at_16.ensures ∙ ap option_copied c.in_ok-table.was in
    let asks = c.is_other.ensures c.if-is_other.true in
    sym (ligature_at-other c.args.ctx.now c.args.set.now _ c.args.index c.in-Some.next table asks
    (rw c.in-Some.is at c.requires.next))
