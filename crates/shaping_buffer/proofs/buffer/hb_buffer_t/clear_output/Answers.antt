use Rattle.std.proofs.Common.{◌≡◌, [], arith}
use Rattle.std.proofs.lemmas.Grind.{common_steps}
use Rattle.shaping_buffer.proofs.KeepsLemmas.{kept_as, keeps_clear_output}
use Rattle.shaping_buffer.proofs.buffer.hb_buffer_t.clear_output.Goals as goal

pub returns-clause-keeps : goal.returns-clause-keeps
returns-clause-keeps c =
    let none : c.args.self.now.out ≡ [] = grind (arith, common_steps) in
    kept_as _ _ _ (keeps_clear_output c.args.self.now none) (grind (arith, common_steps))
