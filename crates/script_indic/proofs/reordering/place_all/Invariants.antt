use Rattle.std.proofs.Common.{◌≡◌}
use Rattle.glyph_lists.specs.Clusters.{clusters}
use Rattle.script_indic.proofs.reordering.place_all.Given as goal

abbrev pub invariant-loop-place : goal.invariant-loop-place
invariant-loop-place g l = clusters l.infos ≡ clusters l.fn.infos
