use Rattle.script_items.specs.Masks.{with_form_mask}
use Rattle.script_items.proofs.WrittenLemmas.{keeps_mapped, with_form_mask-cluster}
use Rattle.script_items.proofs.masks.add_masks.Goals as goal

pub returns-clause-keeps : goal.returns-clause-keeps
returns-clause-keeps c =
    keeps_mapped (with_form_mask c.args.masks.now) c.args.buffer.now c.add_masks_to.new.infos c.info_slice_mut.result.now
    c.info_slice_mut.ensures.value c.add_masks_to.ensures (with_form_mask-cluster c.args.masks.now)
