use Rattle.std.proofs.Common.{arith}
use Rattle.std.proofs.lemmas.Grind.{common_steps}
use Rattle.shaping_buffer.proofs.KeepsLemmas.{kept_as, keeps_unsafe_to_break}
use Rattle.shaping_buffer.proofs.buffer.hb_buffer_t.unsafe_to_break.Goals as goal

pub returns-clause-keeps : goal.returns-clause-keeps
returns-clause-keeps c =
    kept_as _ _ _ (keeps_unsafe_to_break c.args.start c.args.end c.args.self.now c.requires.order) (grind (arith, common_steps))
