use Rattle.std.proofs.Common.{◌≡◌, ◌++◌, length, take, drop, arith, ap, ◌∙◌}
use Rattle.std.proofs.lemmas.List.{with_items_is}
use Rattle.ot_map.specs.Lookups.{in_order}
use Rattle.ot_map.proofs.stage_lookups.Collector.merge_from.Goals as goal

pub returns-clause-lookups : goal.returns-clause-lookups
returns-clause-lookups c = λ inside.
    let least = c.min-start.ensures in
    let all = c.len.ensures in
    let start : c.min-start.result ≡ c.args.start = omega (arith, least, all, inside) in
    let same = c.merged_from-len.auto.lookups in
    let whole = c.as_mut_slice.ensures.len in
    let long : length c.merged_from-len.new.lookups ≡ c.args.self.now.lookups.len = omega (arith, same, whole) in
    c.truncate.ensures.items
    ∙ ap (take c.merged_from-len.result) (with_items_is c.args.self.now.lookups c.merged_from-len.new.lookups long)
    ∙ c.merged_from-len.ensures.is
    ∙ ap (λ l. take c.min-start.result l ++ in_order (drop c.min-start.result l)) c.as_mut_slice.ensures.value
    ∙ ap (λ i. take i c.args.self.now.lookups.items ++ in_order (drop i c.args.self.now.lookups.items)) start
