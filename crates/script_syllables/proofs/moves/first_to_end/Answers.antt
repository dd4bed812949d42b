use Rattle.std.proofs.Common.{arith}
use Rattle.script_syllables.proofs.TurnLemmas.{turned_left}
use Rattle.script_syllables.proofs.moves.first_to_end.Goals as goal

pub returns-then-end-items-clause-is : goal.returns-then-end-items-clause-is
returns-then-end-items-clause-is g c =
    turned_left c.args.start c.args.end c.args.items.now c.rotate_left.new.self (omega arith) (omega arith)
    c.rotate_left.ensures.after
