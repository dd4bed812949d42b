use Rattle.std.proofs.Common.{arith}
use Rattle.std.proofs.lemmas.Grind.{common_steps}
use Rattle.shaping_buffer.proofs.KeepsLemmas.{kept_as, keeps_merge_clusters}
use Rattle.shaping_buffer.proofs.buffer.hb_buffer_t.merge_clusters.Goals as goal

pub returns-clause-keeps : goal.returns-clause-keeps
returns-clause-keeps c =
    kept_as _ _ _ (keeps_merge_clusters c.args.start c.args.end c.args.self.now c.requires.within)
    (grind (arith, common_steps))
