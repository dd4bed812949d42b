use Rattle.std.proofs.Common.{◌≡◌}
use Rattle.glyph_lists.specs.Clusters.{clusters}
use Rattle.script_indic.proofs.final_base.behind_unformed.Given as goal

abbrev pub invariant-loop-turn : goal.invariant-loop-turn
invariant-loop-turn l = clusters l.syllable ≡ clusters l.fn.syllable
