-- The features that every text asks for, before and behind those of its script, and a user's (HarfBuzz, `hb_ot_shape_collect_features`).
use Rattle.std.specs.Prelude.{ℕ, ◌++◌, ◌&&◌, ◌==◌, Bool, true, List, [], ◌∷◌, codes, map, if◌then◌else◌}
use Rattle.rb_common.specs.Direction.{is_horizontal}
use Rattle.rb_common.specs.declared.direction.Direction.{Direction}
use Rattle.rb_common.specs.declared.direction.Direction.TheVariants.{LeftToRight, RightToLeft}
use Rattle.rb_text.specs.Feature.{last_end}
use Rattle.rb_text.specs.declared.feature.Feature.{Feature}
use Rattle.ot_map.specs.Asked.{Ask, EndStage, Request, enabled, named}
use Rattle.ot_map.specs.Requests.{every_glyph, no_flag}
use Rattle.ot_map.specs.declared.plan.Pause.TheVariants.{Nothing}
use Rattle.ot_map.specs.declared.request.FeatureFlags.{FeatureFlags}

-- features of every glyph with these names
abbrev pub all_enabled : FeatureFlags → List (List ℕ) → List Ask
all_enabled flags names = map (λ name. enabled flags (named name)) names

-- forms for the direction; those that are mirrored stand where a character has no mirror image
abbrev pub direction_features : Direction → List Ask
direction_features LeftToRight = all_enabled no_flag (codes "ltra" ∷ codes "ltrm" ∷ [])
direction_features RightToLeft = enabled no_flag (named (codes "rtla")) ∷ Request (named (codes "rtlm")) no_flag 1 ∷ []
direction_features _ = []

-- fractions, and one of the alternates at random; the greatest value of all
abbrev pub chosen_features : List Ask
chosen_features =
    Request (named (codes "frac")) no_flag 1 ∷ Request (named (codes "numr")) no_flag 1
    ∷ Request (named (codes "dnom")) no_flag 1
    ∷ Request (named (codes "rand")) (record every_glyph { random = true }) 255
    ∷ all_enabled no_flag (codes "Harf" ∷ codes "HARF" ∷ [])

-- alternates for variations stand in a stage before all others
abbrev pub first_features : Direction → List Ask
first_features direction =
    enabled no_flag (named (codes "rvrn")) ∷ EndStage Nothing ∷ direction_features direction ++ chosen_features

-- neither kind of joiner is passed over
abbrev pub manual_joiners : FeatureFlags
manual_joiners = record every_glyph { manual_zwnj = true; manual_zwj = true }

abbrev pub common_features : List Ask
common_features =
    all_enabled no_flag
    (codes "Buzz" ∷ codes "BUZZ" ∷ codes "abvm" ∷ codes "blwm" ∷ codes "ccmp" ∷ codes "locl" ∷ codes "rlig" ∷ [])
    ++ all_enabled manual_joiners (codes "mark" ∷ codes "mkmk" ∷ [])

abbrev pub horizontal_features : List Ask
horizontal_features =
    all_enabled no_flag (codes "calt" ∷ codes "clig" ∷ codes "curs" ∷ codes "dist" ∷ codes "liga" ∷ codes "rclt" ∷ [])
    ++ all_enabled (record no_flag { has_fallback = true }) (codes "kern" ∷ [])

-- vertical forms are looked for in the whole list of the font's features
abbrev pub vertical_features : List Ask
vertical_features = all_enabled (record no_flag { global_search = true }) (codes "vert" ∷ [])

abbrev pub last_features : Direction → List Ask
last_features direction =
    common_features ++ (if is_horizontal direction then horizontal_features else vertical_features)

-- a feature of the whole text
abbrev pub is_whole : Feature → Bool
is_whole feature = (feature.start == 0) && (feature.end == last_end)

-- a user's feature: of every glyph where it is one of the whole text
abbrev pub user_feature : Feature → Ask
user_feature feature = Request feature.tag (record no_flag { is_global = is_whole feature }) feature.value

abbrev pub user_features : List Feature → List Ask
user_features features = map user_feature features
