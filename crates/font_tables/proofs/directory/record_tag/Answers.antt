use Rattle.font_tables.proofs.ChunkLemmas.{chunk_count, number_32-row}
use Rattle.std.proofs.Common.{◌+◌, arith, ◌∙◌}
use Rattle.font_tables.proofs.directory.record_tag.Goals as goal

pub returns : goal.returns
returns c =
    let start = c.args.directory + 12 in
    let many = chunk_count start 16 _ c.args.file.now _ c.tail.ensures c.as_chunks.ensures.front_len in
    c.u32_at.ensures
    ∙ number_32-row start 16 c.args.row 0 start c.args.file.now _ _ _ c.tail.ensures c.as_chunks.ensures.front
    (omega (arith, many)) (omega (arith, c.requires)) (omega arith) (omega arith)
