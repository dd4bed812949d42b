use Rattle.std.proofs.Common.{rules}
use Rattle.std.proofs.lemmas.List.Sorted.{answers_always}
use Rattle.ot_map.proofs.OrderLemmas.{found_feature}
use Rattle.ot_map.proofs.plan.place_of.Goals as goal

pub returns : goal.returns
returns c =
    let facts = c.binary_search_by_key.ensures in
    let by_tag = facts.position (λ feature. feature.tag.0) (answers_always _ _ _ (λ f a r g called. search rules)) in
    found_feature _ c.args.tag.0 _ facts.bound by_tag
