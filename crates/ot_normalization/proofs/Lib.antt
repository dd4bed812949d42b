-- Why characters are taken apart and composed as a script and a font say (`PartsLemmas`); that a character which
-- is dropped leaves another one of its cluster (`TwinLemmas`).

pub mod PartsLemmas
pub mod TwinLemmas
