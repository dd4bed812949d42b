use Rattle.std.proofs.Common.{◌≡◌}
use Rattle.glyph_lists.specs.Clusters.{clusters}
use Rattle.script_syllables.proofs.syllables.work_on_all.Given as goal

abbrev pub invariant-loop-turn : goal.invariant-loop-turn
invariant-loop-turn g l = clusters l.infos ≡ clusters l.fn.infos
