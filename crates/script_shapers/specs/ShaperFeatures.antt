-- The features that each shaper asks for, and what it changes of those that were asked for (HarfBuzz's `hb_ot_shaper_t`,
-- `collect_features` and `override_features`).
use Rattle.std.specs.Prelude.{ℕ, Bool, List, [], ◌∷◌, Option, codes}
use Rattle.rb_common.specs.Tag.{tag_of}
use Rattle.ot_map.specs.Asked.{Ask, disabled, has_feature, named}
use Rattle.ot_map.specs.declared.builder.PlanBuilder.{PlanBuilder}
use Rattle.script_indic.specs.IndicFeatures.{indic_features, indic_overrides}
use Rattle.script_joining.specs.ArabicFeatures.{arabic_features, is_arabic}
use Rattle.script_letters.specs.HangulFeatures.{hangul_features}
use Rattle.script_universal.specs.KhmerFeatures.{khmer_features, khmer_overrides}
use Rattle.script_universal.specs.MyanmarFeatures.{myanmar_features}
use Rattle.script_universal.specs.UniversalFeatures.{universal_features}
use Rattle.script_shapers.specs.declared.shaper.ScriptShaper.{ScriptShaper}
use Rattle.script_shapers.specs.declared.shaper.ScriptShaper.TheVariants.{Arabic, Hangul, Indic, Khmer, Myanmar, Universal, UniversalJoining}

-- whether the font has contextual forms that it requires
abbrev pub requires_forms : PlanBuilder → Bool
requires_forms builder = has_feature builder (tag_of (codes "rclt"))

-- those of a shaper for a script, where the font requires contextual forms or not
abbrev pub features_of : ScriptShaper → Option ℕ → Bool → List Ask
features_of Arabic script requires = arabic_features (is_arabic script) requires
features_of Hangul script requires = hangul_features
features_of Indic script requires = indic_features
features_of Khmer script requires = khmer_features
features_of Myanmar script requires = myanmar_features
features_of Universal script requires = universal_features
features_of UniversalJoining script requires = universal_features
features_of _ script requires = []

-- Hangul has no contextual alternates, since fonts have jamo there
abbrev pub overrides_of : ScriptShaper → List Ask
overrides_of Hangul = disabled (named (codes "calt")) ∷ []
overrides_of Indic = indic_overrides
overrides_of Khmer = khmer_overrides
overrides_of _ = []
