use Rattle.std.proofs.Common.{arith}
use Rattle.std.proofs.lemmas.Grind.{common_steps}
use Rattle.shaping_buffer.proofs.KeepsLemmas.{kept_as, keeps_merge_grapheme_clusters}
use Rattle.shaping_buffer.proofs.buffer.hb_buffer_t.merge_grapheme_clusters.Goals as goal

pub returns-then-groups_graphemes-clause-keeps : goal.returns-then-groups_graphemes-clause-keeps
returns-then-groups_graphemes-clause-keeps c =
    kept_as _ _ _ (keeps_merge_grapheme_clusters c.args.start c.args.end c.args.self.now c.requires.order c.requires.within)
    (grind (arith, common_steps))
