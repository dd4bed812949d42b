-- Clusters that are merged, by what holds.
use Rattle.std.proofs.Common.{◌≡◌, ℕ, ◌<◌, ◌≤◌}
use Rattle.std.proofs.lemmas.Bool.{cond-true, cond-false, lt-ltb, le-ltb, or_from, or_left, or_right}
use Rattle.shaping_buffer.specs.State.{State, len}
use Rattle.shaping_buffer.specs.ClusterStep.{merge_clusters}
use Rattle.script_syllables.specs.Moves.{merged}

module _ (start end : ℕ) (s : State) where
  pub merged-some : start ≤ end → end ≤ len s → merged start end s ≡ merge_clusters start end s
  unfolding merged
  merged-some order within = cond-false _ _ _ (or_from _ _ (le-ltb end start order) (le-ltb (len s) end within))

  pub merged-order : end < start → merged start end s ≡ s
  unfolding merged
  merged-order order = cond-true _ _ _ (or_left _ _ (lt-ltb end start order))

  pub merged-past : len s < end → merged start end s ≡ s
  unfolding merged
  merged-past past = cond-true _ _ _ (or_right _ _ (lt-ltb (len s) end past))

pub ruleset steps = (merged-some, merged-order, merged-past)
