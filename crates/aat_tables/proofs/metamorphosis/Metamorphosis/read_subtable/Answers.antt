use Rattle.std.proofs.Common.{◌∙◌, ap, sym}
use Rattle.aat_tables.proofs.MetamorphosisLemmas.{none_more, map-one_more}
use Rattle.aat_tables.proofs.metamorphosis.Metamorphosis.read_subtable.Goals as goal

pub returns-in_default-clause-read : goal.returns-in_default-clause-read
returns-in_default-clause-read c =
    none_more _ c.args.start.now c.number_or_0-bits.result c.number_or_0-bits.ensures (sym c.of.ensures ∙ c.in_default.is)

pub returns-clause-read : goal.returns-clause-read
returns-clause-read c =
    let olds = ap (λ read. read.subtables.items) c.digest_of-digest.ensures in
    rw (c.in_ok-push.ensures.items, olds)
    (map-one_more _ _ c.args.start.now c.number_or_0-bits.result c.number_or_0-bits.ensures (sym c.in-Some.is ∙ c.of.ensures)
    c.of-2.ensures c.number_or_0.ensures c.tail-table.ensures)
