use Rattle.std.proofs.Common.{arith}
use Rattle.ot_map.proofs.MergedLemmas.{IsMergedTo-behind, IsMergedTo-with_last}
use Rattle.ot_map.proofs.stage_lookups.put_next.Goals as goal

pub returns-then-lookups-len-clause-is : goal.returns-then-lookups-len-clause-is
returns-then-lookups-len-clause-is c = λ all rises before.
    IsMergedTo-with_last all c.args.lookups.now _ c.args.len c.args.place _ c.join.ensures c.if-lookups-len.true (omega arith) (omega arith)
    c.requires.place rises before

pub returns-else-lookups-len-clause-is : goal.returns-else-lookups-len-clause-is
returns-else-lookups-len-clause-is c = λ all rises before.
    IsMergedTo-behind all c.args.lookups.now _ c.args.len c.args.place c.if-lookups-len.false (omega arith) c.requires.place rises before
