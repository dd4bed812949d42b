use Rattle.std.proofs.Common.{◌≡◌, ◌≤◌, ◌*◌}
use Rattle.ot_lookups.specs.SubtableLimit.{subtables_of_first}
use Rattle.ot_lookups.proofs.subtable_limit.subtables_of_first.Given as goal

-- those of the lookups so far, of which each has fewer than 65,536
abbrev pub invariant-loop-index : goal.invariant-loop-index
invariant-loop-index l = (l.subtables ≡ subtables_of_first l.list l.index) × (l.subtables ≤ 65536 * l.index)
