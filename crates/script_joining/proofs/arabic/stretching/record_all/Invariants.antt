use Rattle.std.proofs.Common.{◌≡◌}
use Rattle.glyph_lists.proofs.MapLemmas.{mapped}
use Rattle.script_joining.specs.ArabicMarks.{recorded}
use Rattle.script_joining.proofs.arabic.stretching.record_all.Given as goal

abbrev pub invariant-loop-info : goal.invariant-loop-info
invariant-loop-info l = l.infos ≡ mapped recorded l.info-index l.fn.infos
