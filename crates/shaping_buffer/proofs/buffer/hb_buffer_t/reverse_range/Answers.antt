use Rattle.std.proofs.Common.{◌≡◌, ◌≤◌, [], length, arith}
use Rattle.std.proofs.lemmas.Grind.{common_steps}
use Rattle.shaping_buffer.proofs.KeepsLemmas.{kept_as}
use Rattle.shaping_buffer.proofs.GroupKeepsLemmas.{keeps_reverse_range}
use Rattle.shaping_buffer.proofs.buffer.hb_buffer_t.reverse_range.Goals as goal

pub returns-then-self-clause-keeps : goal.returns-then-self-clause-keeps
returns-then-self-clause-keeps c = λ one.
    let none : c.args.self.now.out ≡ [] = grind (arith, common_steps) in
    let in_l : c.args.end ≤ length c.args.self.now.input = grind (arith, common_steps) in
    kept_as _ _ _ (keeps_reverse_range c.args.start c.args.end c.args.self.now none c.requires.order in_l one)
    (grind (arith, common_steps))

pub returns-else-self-clause-keeps : goal.returns-else-self-clause-keeps
returns-else-self-clause-keeps c = λ one.
    let none : c.args.self.now.out ≡ [] = grind (arith, common_steps) in
    let in_l : c.args.end ≤ length c.args.self.now.input = grind (arith, common_steps) in
    kept_as _ _ _ (keeps_reverse_range c.args.start c.args.end c.args.self.now none c.requires.order in_l one)
    (grind (arith, common_steps))
