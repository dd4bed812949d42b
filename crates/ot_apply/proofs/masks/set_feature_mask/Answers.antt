use Rattle.std.proofs.Common.{refl}
use Rattle.ot_apply.proofs.UserFeatureLemmas.{has_feature-of_all, has_feature-of_part}
use Rattle.ot_apply.proofs.masks.set_feature_mask.Goals as goal

pub returns-then-is_global-clause-set : goal.returns-then-is_global-clause-set
returns-then-is_global-clause-set c =
    has_feature-of_all c.args.layout.now c.args.feature.now c.is_global.result c.is_global.ensures c.args.buffer.now
    c.args.buffer.now c.if-is_global.true refl

pub returns-clause-set : goal.returns-clause-set
returns-clause-set c =
    has_feature-of_part c.args.layout.now c.args.feature.now c.is_global.result c.is_global.ensures c.args.buffer.now
    c.set_value.new.buffer c.if-is_global.false c.set_value.ensures.set
