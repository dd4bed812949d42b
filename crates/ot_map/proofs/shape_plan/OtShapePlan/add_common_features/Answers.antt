use Rattle.ot_map.proofs.AskedLemmas.{asks_then}
use Rattle.ot_map.proofs.shape_plan.OtShapePlan.add_common_features.Goals as goal

pub returns : goal.returns
returns c = let all = asks_then _ _ _ _ _ c.in_ok-add_last_features.ensures c.in_ok-add_user_features.ensures in all
