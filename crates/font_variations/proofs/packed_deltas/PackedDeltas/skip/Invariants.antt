use Rattle.std.proofs.Common.{◌≡◌, ◌≤◌, ◌+◌}
use Rattle.font_variations.proofs.packed_deltas.PackedDeltas.skip.Given as goal

-- what is passed over is not left
abbrev pub invariant-loop : goal.invariant-loop
invariant-loop l = record { few : l.skipped ≤ l.count; left : l.self.left + l.skipped ≡ l.fn.self.left }
