-- Why readers of tables find what the specification says, in any bytes.
--
-- Most readers are numbers at places, and compute. A search goes over rows with a last key each: the first that reaches
-- a key is found by a walk, and where the rows rise by bisection, since no row before one that does not reach the key
-- reaches it (`RowLemmas`). Rows of one size are chunks of the table, and a number of a chunk is that of the table
-- (`ChunkLemmas`). Of rows that rise the last reaches what any reaches (`HighestLemmas`). A glyph's range has the glyphs behind it too, up to its last one (`RunLemmas`). Names stand one behind the other, each behind its length, so a walk finds where each begins
-- (`StringLemmas`).

pub mod BisectionLemmas
pub mod ChunkLemmas
pub mod HighestLemmas
pub mod RowLemmas
pub mod RunLemmas
pub mod StringLemmas
