-- Worked rows: what is asked for a line from left to right, in HarfBuzz's stages, and what a user makes of it.
use Rattle.std.proofs.Common.{◌≡◌, ℕ, List, [], ◌∷◌, codes, map, refl}
use Rattle.rb_common.specs.Tag.{tag_of}
use Rattle.rb_common.specs.declared.direction.Direction.TheVariants.{LeftToRight}
use Rattle.rb_text.specs.Feature.{last_end}
use Rattle.rb_text.specs.declared.feature.Feature.{Feature}
use Rattle.ot_map.specs.Asked.{Ask, enabled, named, nothing_yet, with_asks}
use Rattle.ot_map.specs.CommonFeatures.{first_features, user_features}
use Rattle.ot_map.specs.Requests.{merged, no_flag, requested}

-- the tags of what is asked for, each with its stage: alternates of variations come before all
abbrev tags_of : List Ask → List (ℕ × ℕ)
tags_of asks = map (λ q. (q.tag.0, q.stage)) (with_asks asks nothing_yet).requests

pub first_row : tags_of (first_features LeftToRight)
    ≡ (tag_of (codes "HARF"), 1) ∷ (tag_of (codes "Harf"), 1) ∷ (tag_of (codes "dnom"), 1) ∷ (tag_of (codes "frac"), 1)
    ∷ (tag_of (codes "ltra"), 1) ∷ (tag_of (codes "ltrm"), 1) ∷ (tag_of (codes "numr"), 1) ∷ (tag_of (codes "rand"), 1)
    ∷ (tag_of (codes "rvrn"), 0) ∷ []
unfolding requested merged
first_row = refl

-- `-liga` for the whole text turns off what all texts ask for, and `liga` for a part of it leaves it on
abbrev values_of : Feature → List (ℕ × ℕ)
values_of feature =
    map (λ q. (q.max_value, q.default_value))
    (with_asks (enabled no_flag (named (codes "liga")) ∷ user_features (feature ∷ [])) nothing_yet).requests

pub off_row : values_of (record { tag = named (codes "liga"); value = 0; start = 0; end = last_end }) ≡ (0, 0) ∷ []
unfolding requested merged
off_row = refl

pub part_row : values_of (record { tag = named (codes "liga"); value = 3; start = 2; end = 5 }) ≡ (3, 1) ∷ []
unfolding requested merged
part_row = refl
