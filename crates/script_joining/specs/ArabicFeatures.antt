-- The features that Arabic and Syriac ask for, in their stages (OpenType, "Developing OpenType Fonts for Arabic Script", ".. Syriac
-- Script"; HarfBuzz, `collect_features_arabic`).
use Rattle.std.specs.Prelude.{ℕ, Bool, true, false, Option, Some, None, not, ◌==◌, ◌&&◌, ◌||◌, ◌++◌, List, [], ◌∷◌, codes, get_or, map, if◌then◌else◌}
use Rattle.rb_common.specs.Tag.{tag_of}
use Rattle.ot_map.specs.Asked.{Ask, EndStage, Request, in_stages, named, of_some}
use Rattle.ot_map.specs.Requests.{no_flag, over_no_joiner}
use Rattle.ot_map.specs.declared.plan.Pause.{Pause}
use Rattle.ot_map.specs.declared.plan.Pause.TheVariants.{ArabicFallback, Nothing, RecordStch}
use Rattle.ot_map.specs.declared.request.FeatureFlags.{FeatureFlags}

-- whether a script is Arabic
abbrev pub is_arabic : Option ℕ → Bool
is_arabic None = false
is_arabic (Some script) = script == tag_of (codes "Arab")

-- there is a fallback for a font without the feature
abbrev pub with_fallback : FeatureFlags
with_fallback = record over_no_joiner { has_fallback = true }

-- the forms of letters
abbrev pub form_names : List (List ℕ)
form_names =
    codes "isol" ∷ codes "fina" ∷ codes "fin2" ∷ codes "fin3" ∷ codes "medi" ∷ codes "med2" ∷ codes "init" ∷ []

-- Syriac letters alone have the forms whose names end with 2 or 3
abbrev pub is_syriac : List ℕ → Bool
is_syriac name = (get_or name 3 0 == 50) || (get_or name 3 0 == 51)

-- in Arabic the others have a fallback
unfoldable pub form_flags : Bool → List ℕ → FeatureFlags
form_flags arabic name = if arabic && not (is_syriac name) then with_fallback else over_no_joiner

abbrev pub form_feature : Bool → List ℕ → Ask
form_feature arabic name = Request (named name) (form_flags arabic name) 1

-- a stage ends here, or does not
abbrev pub ended_if : Bool → Pause → List Ask
ended_if ends pause = if ends then EndStage pause ∷ [] else []

-- marks that are stretched are noted before anything joins them; then letters by their language, and what they are composed of
abbrev pub first_stages : List Ask
first_stages =
    of_some no_flag true (codes "stch") ∷ EndStage RecordStch
    ∷ of_some over_no_joiner true (codes "ccmp") ∷ of_some over_no_joiner true (codes "locl") ∷ EndStage Nothing ∷ []

-- contextual forms, and ligatures in the stage behind them, unless the font requires contextual forms of its own
abbrev pub ligature_features : Bool → List Ask
ligature_features requires =
    of_some over_no_joiner true (codes "calt") ∷ ended_if (not requires) Nothing
    ++ map (of_some over_no_joiner true) (codes "liga" ∷ codes "clig" ∷ codes "mset" ∷ [])

-- each form in a stage of its own, and behind them the ligatures that the script requires
abbrev pub arabic_features : Bool → Bool → List Ask
arabic_features arabic requires =
    first_stages ++ in_stages (map (form_feature arabic) form_names)
    ++ of_some with_fallback true (codes "rlig") ∷ ended_if arabic ArabicFallback ++ ligature_features requires
