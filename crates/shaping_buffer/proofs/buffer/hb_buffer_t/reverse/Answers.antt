use Rattle.std.proofs.Common.{◌≡◌, [], arith}
use Rattle.std.proofs.lemmas.Grind.{common_steps}
use Rattle.shaping_buffer.proofs.KeepsLemmas.{turned_as}
use Rattle.shaping_buffer.proofs.ClosedKeepsLemmas.{turns_reverse}
use Rattle.shaping_buffer.proofs.buffer.hb_buffer_t.reverse.Goals as goal

pub returns-clause-turns : goal.returns-clause-turns
returns-clause-turns c =
    let none : c.args.self.now.out ≡ [] = grind (arith, common_steps) in
    turned_as _ _ _ (turns_reverse c.args.self.now none) (grind (arith, common_steps))
