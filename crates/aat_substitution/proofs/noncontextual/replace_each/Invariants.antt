use Rattle.std.proofs.Common.{◌≡◌}
use Rattle.shaping_buffer.specs.Clusters.{clusters}
use Rattle.aat_substitution.proofs.noncontextual.replace_each.Given as goal

abbrev pub invariant-loop-place : goal.invariant-loop-place
invariant-loop-place l = (clusters l.glyphs ≡ clusters l.fn.glyphs) × (l.work.budget ≡ l.fn.work.budget)
