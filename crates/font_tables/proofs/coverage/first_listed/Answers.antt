use Rattle.font_tables.proofs.ChunkLemmas.{rows_from_16, first_row-same, rises-same}
use Rattle.std.proofs.Common.{arith, ◌∙◌, refl}
use Rattle.font_tables.proofs.coverage.first_listed.Goals as goal

pub first_row-requires : goal.first_row-requires
first_row-requires c = λ rising.
    let rows = rows_from_16 4 2 c.from.result 0 4 c.args.table.now _ _ c.tail.ensures c.as_chunks.ensures.front (omega arith) (omega arith) refl in
    rises-same _ _ _ rows (rw c.from.ensures (c.requires.rise rising))

pub returns-clause-is : goal.returns-clause-is
returns-clause-is c =
    let rows = rows_from_16 4 2 c.from.result 0 4 c.args.table.now _ _ c.tail.ensures c.as_chunks.ensures.front (omega arith) (omega arith) refl in
    c.first_row.ensures.is ∙ first_row-same _ _ _ _ rows ∙ rw (c.from.ensures, c.from-2.ensures, c.requires.counts) refl
