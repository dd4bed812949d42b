use Rattle.std.proofs.Common.{ℕ, ◌<◌}
use Rattle.ot_lookups.specs.Seconds.{HasSecondOfEach}
use Rattle.ot_lookups.specs.Sets.{set_at}
use Rattle.ot_lookups.proofs.seconds.seconds_of.Given as goal

-- the digest has the second glyphs of the sets so far
abbrev pub invariant-loop-index : goal.invariant-loop-index
invariant-loop-index l = (k : ℕ) → k < l.index → HasSecondOfEach (set_at l.table k) l.digest
