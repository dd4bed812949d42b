use Rattle.std.proofs.Common.{◌≡◌}
use Rattle.glyph_lists.proofs.MapLemmas.{mapped}
use Rattle.ot_attachments.specs.Placing.{detached}
use Rattle.ot_attachments.proofs.finishing.detach_all.Given as goal

-- those that were gone over are attached to none
abbrev pub invariant-loop-position : goal.invariant-loop-position
invariant-loop-position l = l.positions ≡ mapped detached l.position-index l.fn.positions
