use Rattle.std.proofs.Common.{true, Ok, arith}
use Rattle.std.proofs.lemmas.Grind.{common_steps}
use Rattle.shaping_buffer.proofs.KeepsLemmas.{kept_next}
use Rattle.shaping_buffer.proofs.buffer.hb_buffer_t.next_glyph.Goals as goal

pub returns-clause-keeps : goal.returns-clause-keeps
returns-clause-keeps c = kept_next c.args.self.now (Ok true) _ 1 (grind (arith, common_steps))
