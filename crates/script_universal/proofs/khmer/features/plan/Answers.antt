use Rattle.script_universal.proofs.khmer.features.plan.Goals as goal

pub returns : goal.returns
returns c = record {
  pref = c.one_mask.ensures;
  blwf = c.one_mask-2.ensures;
  abvf = c.one_mask-3.ensures;
  pstf = c.one_mask-4.ensures;
  cfar = c.one_mask-5.ensures;
}
