-- The features that Hangul asks for (OpenType, "Developing OpenType Fonts for Korean Hangul Script"; HarfBuzz,
-- `collect_features_hangul`).
use Rattle.std.specs.Prelude.{false, List, [], ◌∷◌, codes, map}
use Rattle.ot_map.specs.Asked.{Ask, of_some}
use Rattle.ot_map.specs.Requests.{no_flag}

-- leading, vowel and trailing jamo, of the glyphs that the shaper finds
abbrev pub hangul_features : List Ask
hangul_features = map (of_some no_flag false) (codes "ljmo" ∷ codes "vjmo" ∷ codes "tjmo" ∷ [])
