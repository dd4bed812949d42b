use Rattle.std.proofs.Common.{true, length, ◌-◌, ◌≡◌, ◌+◌, ◌≤◌, ℕ}
use Rattle.glyph_lists.specs.Groups.{Test}
use Rattle.shaping_buffer.specs.GroupStep.{KeepsOthers}
use Rattle.shaping_buffer.specs.KeepsClusters.{KeepsClusters}
use Rattle.shaping_buffer.proofs.GroupStepLemmas.{HasEachPosition, reverse_each}
use Rattle.shaping_buffer.proofs.buffer.hb_buffer_t.reverse_groups.Given as goal

abbrev pub invariant-loop-start : goal.invariant-loop-start
invariant-loop-start g l =
    (turns : ℕ) × (length l.self.input ≤ l.start + turns) × (l.len ≡ length l.self.input)
    × (length l.self.input ≡ length l.fn.self.input)
    × KeepsOthers l.fn.self l.self × HasEachPosition l.fn.self
    × ((test : Test) → ((x y : _) (r : _) → goal.F-post g l.group x y r → r ≡ test x.now y.now)
    → reverse_each l.merge_clusters test turns l.start l.self
    ≡ reverse_each l.merge_clusters test (length l.fn.self.input) 0 l.fn.self)
    × (l.merge_clusters ≡ true → KeepsClusters l.fn.self l.self)

abbrev pub decreases-loop-start : goal.decreases-loop-start
decreases-loop-start g l = l.len - l.start
