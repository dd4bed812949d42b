use Rattle.std.proofs.Common.{◌≡◌}
use Rattle.glyph_lists.proofs.MapLemmas.{mapped}
use Rattle.glyph_lists.specs.Clusters.{clusters}
use Rattle.script_indic.specs.InitialOrder.{before_base}
use Rattle.script_indic.proofs.initial_order.place_before.Given as goal

-- the items so far have their positions
abbrev pub invariant-loop-place : goal.invariant-loop-place
invariant-loop-place l =
    (l.syllable ≡ mapped before_base l.place l.fn.syllable) × (clusters l.syllable ≡ clusters l.fn.syllable)
