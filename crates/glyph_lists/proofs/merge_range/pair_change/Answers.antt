use Rattle.std.proofs.Common.{◌≡◌, ◌-◌, ◌<◌, ◌≤◌, length, get_or, arith}
use Rattle.std.proofs.lemmas.Grind.{common_steps}
use Rattle.glyph_lists.specs.ClusterReads.{both_clusters}
use Rattle.glyph_lists.proofs.RunMergeLemmas.{widened_by_second, widened_by_first}
use Rattle.glyph_lists.proofs.ClustersLemmas.{length_clusters-append}
use Rattle.glyph_lists.proofs.merge_range.pair_change.Goals as goal

pub returns-then-first-second-clause-several : goal.returns-then-first-second-clause-several
returns-then-first-second-clause-several c =
    let cs = both_clusters c.args.reads.now in
    let x = c.cluster-first.result in
    let y = c.cluster-second.result in
    let first : x ≡ get_or cs c.args.start 0 = grind (arith, common_steps) in
    let second : y ≡ get_or cs (c.args.end - 1) 0 = grind (arith, common_steps) in
    let up : x < y = grind (arith, common_steps) in
    let within : c.args.end < length cs = grind (arith, common_steps, length_clusters-append) in
    let on : get_or cs c.args.end 0 ≡ y = grind (arith, common_steps) in
    λ _. widened_by_second cs c.args.start c.args.end c.args.floor x y c.requires.pair within first second up on

pub returns-then-second-first-clause-several : goal.returns-then-second-first-clause-several
returns-then-second-first-clause-several c =
    let cs = both_clusters c.args.reads.now in
    let x = c.cluster-first.result in
    let y = c.cluster-second.result in
    let first : x ≡ get_or cs c.args.start 0 = grind (arith, common_steps) in
    let second : y ≡ get_or cs (c.args.end - 1) 0 = grind (arith, common_steps) in
    let down : y < x = grind (arith, common_steps) in
    let within : c.args.end ≤ length cs = grind (arith, common_steps, length_clusters-append) in
    let above : c.args.floor < c.args.start = grind (arith, common_steps) in
    let on : get_or cs (c.args.start - 1) 0 ≡ x = grind (arith, common_steps) in
    λ _. widened_by_first cs c.args.start c.args.end c.args.floor x y c.requires.pair within first second down above on
