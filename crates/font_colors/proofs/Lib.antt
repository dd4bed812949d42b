-- Why boxes of bitmaps and of paints are those that tables say: a walk over rows finds the first that fits, and literals of floats
-- are compared by their bits (`FloatLemmas`).

pub mod FloatLemmas
