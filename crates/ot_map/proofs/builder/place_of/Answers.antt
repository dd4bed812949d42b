use Rattle.std.proofs.Common.{rules}
use Rattle.std.proofs.lemmas.List.Sorted.{answers_always}
use Rattle.ot_map.proofs.OrderLemmas.{found_request}
use Rattle.ot_map.proofs.builder.place_of.Goals as goal

pub returns : goal.returns
returns c =
    let facts = c.binary_search_by_key.ensures in
    let by_tag = facts.position (λ request. request.tag.0) (answers_always _ _ _ (λ f a r g called. search rules)) in
    found_request _ c.args.tag.0 _ facts.bound by_tag
