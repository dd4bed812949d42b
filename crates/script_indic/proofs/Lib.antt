-- What is moved, sorted and numbered is proved by the lemmas of `script_syllables`. The walk back over a syllable finds its base step by
-- step (`BaseLemmas`).

pub mod BaseLemmas
