-- Why lists of options are read as they are written.
--
-- They are cut from texts part by part (`FeatureLemmas`, `BatchLemmas`), and numbers are read byte by byte (`CodePointLemmas`).

mod BatchLemmas
mod CodePointLemmas
mod FeatureLemmas
