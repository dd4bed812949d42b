use Rattle.std.proofs.Common.{◌≡◌}
use Rattle.glyph_lists.proofs.MapLemmas.{mapped}
use Rattle.script_items.specs.Masks.{with_form_mask}
use Rattle.script_items.proofs.masks.add_masks_to.Given as goal

abbrev pub invariant-loop-info : goal.invariant-loop-info
invariant-loop-info l = l.infos ≡ mapped (with_form_mask l.masks) l.info-index l.fn.infos
