use Rattle.std.proofs.Common.{true, Ok, arith}
use Rattle.std.proofs.lemmas.Grind.{common_steps}
use Rattle.shaping_buffer.proofs.KeepsLemmas.{kept_moved}
use Rattle.shaping_buffer.proofs.MoveLemmas.{move_to-forward}
use Rattle.shaping_buffer.proofs.buffer.hb_buffer_t.move_to.Goals as goal

pub returns-then-out_len-i : goal.returns-then-out_len-i
returns-then-out_len-i c = grind (arith, move_to-forward)

pub returns-clause-keeps : goal.returns-clause-keeps
returns-clause-keeps c = kept_moved c.args.self.now (Ok true) _ c.args.i (grind (arith, common_steps))
