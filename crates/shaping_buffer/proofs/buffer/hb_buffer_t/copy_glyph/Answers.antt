use Rattle.std.proofs.Common.{arith}
use Rattle.std.proofs.lemmas.Grind.{common_steps}
use Rattle.shaping_buffer.proofs.KeepsLemmas.{kept_copied}
use Rattle.shaping_buffer.proofs.buffer.hb_buffer_t.copy_glyph.Goals as goal

pub returns-clause-keeps : goal.returns-clause-keeps
returns-clause-keeps c = kept_copied c.args.self.now c.put.result _ (grind (arith, common_steps))
