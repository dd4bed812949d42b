use Rattle.std.proofs.Common.{◌≡◌, map}
use Rattle.ot_lookups.specs.LookupTables.{head_of, heads_of_first}
use Rattle.ot_lookups.proofs.lookup_list.read_all.Given as goal

-- the lookups so far
abbrev pub invariant-loop-index : goal.invariant-loop-index
invariant-loop-index l = map head_of l.lookups.items ≡ heads_of_first l.gdef.table.now l.list l.index
