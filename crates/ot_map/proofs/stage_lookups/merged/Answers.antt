use Rattle.std.proofs.Common.{rules, ◌∙◌}
use Rattle.std.proofs.lemmas.List.Sorted.{IsNonDecreasingBy-from_sort_by_key}
use Rattle.ot_map.proofs.LookupLemmas.{in_order-permutation}
use Rattle.ot_map.proofs.stage_lookups.merged.Goals as goal

pub returns-clause-is : goal.returns-clause-is
returns-clause-is c =
    c.put_together.ensures.is
    (IsNonDecreasingBy-from_sort_by_key (λ lookup. lookup.index) _ c.sort_unstable_by_key.ensures.sorted (λ a r q k. search rules))
    ∙ in_order-permutation _ _ c.sort_unstable_by_key.ensures.permutation
