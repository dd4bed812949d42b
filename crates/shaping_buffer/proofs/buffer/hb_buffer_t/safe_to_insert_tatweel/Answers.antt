use Rattle.std.proofs.Common.{rules}
use Rattle.shaping_buffer.proofs.KeepsLemmas.{kept_as, keeps_safe_to_insert_tatweel}
use Rattle.shaping_buffer.proofs.buffer.hb_buffer_t.safe_to_insert_tatweel.Goals as goal

pub returns-clause-keeps : goal.returns-clause-keeps
returns-clause-keeps c =
    kept_as _ _ _ (keeps_safe_to_insert_tatweel c.args.start c.args.end c.args.self.now c.requires.order) (search rules)
