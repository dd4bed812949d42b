use Rattle.std.proofs.Common.{◌≡◌}
use Rattle.glyph_lists.proofs.MapLemmas.{mapped}
use Rattle.ot_positions.specs.FallbackMarks.{recategorized}
use Rattle.ot_positions.proofs.mark_classes.recategorize_all.Given as goal

abbrev pub invariant-loop-info : goal.invariant-loop-info
invariant-loop-info l = l.infos ≡ mapped recategorized l.info-index l.fn.infos
