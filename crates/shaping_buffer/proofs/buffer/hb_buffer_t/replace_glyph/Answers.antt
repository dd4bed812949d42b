use Rattle.std.proofs.Common.{arith}
use Rattle.std.proofs.lemmas.Grind.{common_steps}
use Rattle.shaping_buffer.proofs.KeepsLemmas.{kept_replaced}
use Rattle.shaping_buffer.proofs.buffer.hb_buffer_t.replace_glyph.Goals as goal

pub returns-clause-keeps : goal.returns-clause-keeps
returns-clause-keeps c = kept_replaced c.args.self.now c.put.result _ c.args.glyph_index c.requires.opened
    (grind (arith, common_steps))
