use Rattle.std.proofs.Common.{◌≡◌}
use Rattle.font_variations.specs.DeltaSets.{part, sum_of}
use Rattle.font_variations.proofs.delta_sets.DeltaSets.delta.Given as goal

-- the sum is that of the parts so far
abbrev pub invariant-loop-place : goal.invariant-loop-place
invariant-loop-place l = l.sum ≡ sum_of (part l.self.table.now l.item l.list.table.now l.coordinates) l.place
