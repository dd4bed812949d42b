use Rattle.std.proofs.Common.{◌≡◌}
use Rattle.glyph_lists.specs.Clusters.{clusters}
use Rattle.glyph_lists.specs.Marks.{with_glyph_flags}
use Rattle.glyph_lists.proofs.MapLemmas.{mapped}
use Rattle.script_syllables.proofs.item.add_to_all.Given as goal

abbrev pub invariant-loop-info : goal.invariant-loop-info
invariant-loop-info l = record {
  masked : l.infos ≡ mapped (with_glyph_flags l.mask) l.info-index l.fn.infos;
  same : clusters l.infos ≡ clusters l.fn.infos;
}
