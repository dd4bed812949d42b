use Rattle.std.proofs.Common.{drop, arith}
use Rattle.std.proofs.lemmas.List.{length-drop, take_all}
use Rattle.ot_map.proofs.MergedLemmas.{take-merged_behind}
use Rattle.ot_map.proofs.stage_lookups.merged_from.Goals as goal

pub returns-clause-is : goal.returns-clause-is
returns-clause-is c =
    let few = c.merged-len.ensures.few in
    let same = c.merged-len.auto.lookups in
    let long = length-drop c.args.start c.args.lookups.now in
    take-merged_behind c.args.lookups.now _ c.merged-len.new.lookups _ c.args.start c.merged-len.result c.requires (omega (arith, few, same))
    c.merged-len.ensures.is (take_all _ (drop c.args.start c.args.lookups.now) (omega (arith, long)))
