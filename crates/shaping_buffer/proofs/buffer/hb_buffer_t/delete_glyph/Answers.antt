use Rattle.std.proofs.Common.{arith}
use Rattle.std.proofs.lemmas.Grind.{common_steps}
use Rattle.shaping_buffer.proofs.KeepsLemmas.{kept_as, keeps_delete_glyph, left_some}
use Rattle.shaping_buffer.proofs.buffer.hb_buffer_t.delete_glyph.Goals as goal

pub returns-clause-keeps : goal.returns-clause-keeps
returns-clause-keeps c =
    let some = left_some c.args.self.now c.requires.opened c.requires.glyph in
    kept_as _ _ _ (keeps_delete_glyph c.args.self.now some) (grind (arith, common_steps))
