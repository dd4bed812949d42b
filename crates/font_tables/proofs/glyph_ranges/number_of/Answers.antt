use Rattle.font_tables.proofs.ChunkLemmas.{chunk_count, number_16-row}
use Rattle.std.proofs.Common.{◌+◌, arith, ◌∙◌, refl}
use Rattle.font_tables.proofs.glyph_ranges.number_of.Goals as goal

pub returns : goal.returns
returns c =
    let many = chunk_count 4 6 _ c.args.table.now _ c.tail.ensures c.as_chunks.ensures.front_len in
    c.u16_at.ensures
    ∙ number_16-row 4 6 c.args.row c.args.place
    (4 + c.args.place) c.args.table.now _ _ _ c.tail.ensures c.as_chunks.ensures.front (omega (arith, many))
    (omega arith) (omega arith) refl
