use Rattle.std.proofs.Common.{arith}
use Rattle.std.proofs.lemmas.Grind.{common_steps}
use Rattle.shaping_buffer.proofs.KeepsLemmas.{kept_as}
use Rattle.shaping_buffer.proofs.ClosedKeepsLemmas.{keeps_reset_masks}
use Rattle.shaping_buffer.proofs.buffer.hb_buffer_t.reset_masks.Goals as goal

pub returns-clause-keeps : goal.returns-clause-keeps
returns-clause-keeps c = kept_as _ _ _ (keeps_reset_masks c.args.mask c.args.self.now) (grind (arith, common_steps))
