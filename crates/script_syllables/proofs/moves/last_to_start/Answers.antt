use Rattle.std.proofs.Common.{arith}
use Rattle.script_syllables.proofs.TurnLemmas.{turned_right}
use Rattle.script_syllables.proofs.moves.last_to_start.Goals as goal

pub returns-then-count-end-clause-is : goal.returns-then-count-end-clause-is
returns-then-count-end-clause-is g c =
    turned_right c.args.start c.args.end c.args.items.now c.rotate_right.new.self (omega arith) c.args.count
    (omega arith) (omega arith) c.rotate_right.ensures.after
