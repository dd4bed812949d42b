use Rattle.script_universal.proofs.universal.features.form_masks.Goals as goal

pub returns : goal.returns
returns c = record {
  isol = c.form_mask.ensures;
  init = c.form_mask-2.ensures;
  medi = c.form_mask-3.ensures;
  fina = c.form_mask-4.ensures;
}
