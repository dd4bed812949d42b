use Rattle.std.proofs.Common.{◌≡◌}
use Rattle.glyph_lists.specs.Marks.{with_glyph_flags}
use Rattle.glyph_lists.proofs.MapLemmas.{mapped}
use Rattle.ot_positions.proofs.cluster_flags.add_flags.Given as goal

abbrev pub invariant-loop-info : goal.invariant-loop-info
invariant-loop-info l = l.infos ≡ mapped (with_glyph_flags l.flags) l.info-index l.fn.infos
