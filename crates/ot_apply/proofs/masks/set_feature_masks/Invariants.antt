use Rattle.std.proofs.Common.{◌≡◌, false, take}
use Rattle.shaping_buffer.specs.KeepsClusters.{KeepsClusters}
use Rattle.ot_apply.specs.Masks.{HasFeatures}
use Rattle.ot_apply.proofs.masks.set_feature_masks.Given as goal

-- the features that were gone over are set
abbrev pub invariant-loop-feature : goal.invariant-loop-feature
invariant-loop-feature l = record {
  closed : l.buffer.have_output ≡ false;
  keeps : KeepsClusters l.fn.buffer l.buffer;
  set : HasFeatures l.layout (take l.feature-index l.features) l.fn.buffer l.buffer;
}
