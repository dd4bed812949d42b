use Rattle.ot_lookups.proofs.LookupTablesLemmas.{map-head_more}
use Rattle.ot_lookups.proofs.lookup_list.read_all.Goals as goal

pub loop-index-preserved : goal.loop-index-preserved
loop-index-preserved c =
    map-head_more _ _ _ _ _ _ _ c.in_ok-push.ensures.items c.lookup_of.ensures c.table_or_empty-table.ensures c.loop-index.invariant
