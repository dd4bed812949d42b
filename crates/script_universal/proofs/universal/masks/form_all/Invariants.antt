use Rattle.std.proofs.Common.{◌≡◌}
use Rattle.glyph_lists.specs.Clusters.{clusters}
use Rattle.glyph_lists.proofs.MapLemmas.{mapped}
use Rattle.script_universal.specs.Masks.{formed}
use Rattle.script_universal.proofs.universal.masks.form_all.Given as goal

abbrev pub invariant-loop-info : goal.invariant-loop-info
invariant-loop-info l = record {
  formed : l.infos ≡ mapped (formed l.masks l.mask) l.info-index l.fn.infos;
  same : clusters l.infos ≡ clusters l.fn.infos;
}
