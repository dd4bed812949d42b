use Rattle.std.proofs.Common.{arith}
use Rattle.std.proofs.lemmas.Grind.{common_steps}
use Rattle.shaping_buffer.proofs.KeepsLemmas.{kept_output}
use Rattle.shaping_buffer.proofs.buffer.hb_buffer_t.output_glyph.Goals as goal

pub returns-clause-keeps : goal.returns-clause-keeps
returns-clause-keeps c = kept_output c.args.self.now c.put.result _ c.args.glyph_index (grind (arith, common_steps))
