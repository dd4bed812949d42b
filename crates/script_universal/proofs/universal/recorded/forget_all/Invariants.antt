use Rattle.std.proofs.Common.{◌≡◌}
use Rattle.glyph_lists.specs.Clusters.{clusters}
use Rattle.glyph_lists.proofs.MapLemmas.{mapped}
use Rattle.script_syllables.specs.Item.{without_substitution}
use Rattle.script_universal.proofs.universal.recorded.forget_all.Given as goal

abbrev pub invariant-loop-info : goal.invariant-loop-info
invariant-loop-info l = record {
  forgotten : l.infos ≡ mapped without_substitution l.info-index l.fn.infos;
  same : clusters l.infos ≡ clusters l.fn.infos;
}
