use Rattle.std.proofs.Common.{◌≡◌, true, arith}
use Rattle.std.proofs.lemmas.Grind.{common_steps}
use Rattle.shaping_buffer.proofs.KeepsLemmas.{keeps_then}
use Rattle.ot_apply.proofs.substitution.substitute_by_morx.Goals as goal

pub returns-clause-keeps : goal.returns-clause-keeps
returns-clause-keeps c = λ _.
    let done : c.in_ok-substitute.field-0 ≡ true = grind (arith, common_steps) in
    keeps_then c.args.buffer.now c.substitute.new.buffer c.remove_deleted.new.buffer (c.in_ok-substitute.ensures.keeps done)
    c.remove_deleted.ensures.keeps
