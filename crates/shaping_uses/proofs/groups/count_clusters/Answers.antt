use Rattle.std.proofs.Common.{rules}
use Rattle.glyph_lists.specs.Groups.{share_cluster}
use Rattle.shaping_uses.proofs.GroupsLemmas.{one_counted}
use Rattle.shaping_uses.proofs.groups.count_clusters.Goals as goal

pub loop-start-preserved : goal.loop-start-preserved
loop-start-preserved c =
    one_counted share_cluster c.args.buffer.now.input c.loop-start.start c.loop-start.count c.group_end-start.result
    (search rules) c.loop-start.invariant (c.group_end-start.ensures.is share_cluster (λ x y r e. e))
    c.group_end-start.ensures.after (search rules)
