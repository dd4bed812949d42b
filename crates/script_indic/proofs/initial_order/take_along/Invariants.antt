use Rattle.std.proofs.Common.{◌≡◌}
use Rattle.glyph_lists.specs.Clusters.{clusters}
use Rattle.script_indic.proofs.initial_order.take_along.Given as goal

abbrev pub invariant-loop-place : goal.invariant-loop-place
invariant-loop-place l = clusters l.syllable ≡ clusters l.fn.syllable
