use Rattle.std.proofs.Common.{◌≡◌}
use Rattle.glyph_lists.proofs.MapLemmas.{mapped}
use Rattle.ot_positions.specs.Ending.{shown_selector}
use Rattle.ot_positions.proofs.ending.show_all.Given as goal

abbrev pub invariant-loop-info : goal.invariant-loop-info
invariant-loop-info l = l.infos ≡ mapped (shown_selector l.glyph) l.info-index l.fn.infos
