use Rattle.ot_map.proofs.AskedLemmas.{asks_then}
use Rattle.ot_map.proofs.default_features.add_horizontal_features.Goals as goal

pub returns : goal.returns
returns c = let all = asks_then _ _ _ _ _ c.in_ok-enable_all.ensures c.in_ok-enable_all-2.ensures in all
