use Rattle.std.proofs.Common.{arith}
use Rattle.std.proofs.lemmas.Grind.{common_steps}
use Rattle.shaping_buffer.proofs.KeepsLemmas.{kept_as, ordered_as, keeps_skip_glyph, ordered_skip_glyph}
use Rattle.shaping_buffer.proofs.buffer.hb_buffer_t.skip_glyph.Goals as goal

pub returns-clause-keeps_order : goal.returns-clause-keeps_order
returns-clause-keeps_order c = ordered_as _ _ _ (ordered_skip_glyph c.args.self.now) (grind (arith, common_steps))

pub returns-clause-keeps : goal.returns-clause-keeps
returns-clause-keeps c = λ twin. kept_as _ _ _ (keeps_skip_glyph c.args.self.now twin) (grind (arith, common_steps))
