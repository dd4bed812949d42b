use Rattle.std.proofs.Common.{◌≡◌}
use Rattle.glyph_lists.proofs.MapLemmas.{mapped}
use Rattle.ot_kern.specs.Kerning.{joined}
use Rattle.ot_kern.proofs.kerning.chain_all.Given as goal

-- those that were gone over are joined
abbrev pub invariant-loop-position : goal.invariant-loop-position
invariant-loop-position l = l.positions ≡ mapped (joined l.chain) l.position-index l.fn.positions
