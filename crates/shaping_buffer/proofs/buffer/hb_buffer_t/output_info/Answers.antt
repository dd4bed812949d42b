use Rattle.std.proofs.Common.{arith}
use Rattle.std.proofs.lemmas.Grind.{common_steps}
use Rattle.shaping_buffer.proofs.KeepsLemmas.{kept_info}
use Rattle.shaping_buffer.proofs.buffer.hb_buffer_t.output_info.Goals as goal

pub returns-clause-keeps : goal.returns-clause-keeps
returns-clause-keeps c = λ beside. kept_info c.args.self.now c.put.result _ c.args.glyph_info beside
    (grind (arith, common_steps))
