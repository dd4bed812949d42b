use Rattle.std.proofs.Common.{arith}
use Rattle.script_letters.proofs.ThaiLemmas.{ring_in_place-more}
use Rattle.script_letters.proofs.thai.sara_am.move_ring.Goals as goal

pub returns-clause-is : goal.returns-clause-is
returns-clause-is c =
    ring_in_place-more c.args.buffer.now c.place_ring.new.buffer c.out_info.result.now c.out_len-end.result c.run_start-start.result
    c.out_len-end.ensures.out_len (omega arith) c.out_info.ensures c.run_start-start.ensures.within c.run_start-start.ensures.marks
    c.run_start-start.ensures.longest c.place_ring.ensures.is
