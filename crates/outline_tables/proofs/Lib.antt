-- Why DICT data say what their bytes do: number by number and operator by operator (`DictLemmas`). Numbers are signed, and go through
-- their bits (`SignedLemmas`).

pub mod DictLemmas
pub mod SignedLemmas
