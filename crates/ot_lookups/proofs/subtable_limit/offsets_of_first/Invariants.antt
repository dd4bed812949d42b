use Rattle.std.proofs.Common.{◌≡◌, ◌≤◌}
use Rattle.ot_lookups.specs.SubtableLimit.{offsets_of_first}
use Rattle.ot_lookups.proofs.subtable_limit.offsets_of_first.Given as goal

-- those so far
abbrev pub invariant-loop-index : goal.invariant-loop-index
invariant-loop-index l = (l.offsets ≡ offsets_of_first l.list l.index) × (l.offsets ≤ l.index)
