-- Which features a plan is compiled of, and in which order they are asked for (HarfBuzz, `hb_ot_shape_collect_features`).
use Rattle.std.specs.Prelude.{◌≡◌, ◌++◌, ℕ, Bool, true, List, [], ◌∷◌, Option, Some, codes}
use Rattle.rb_common.specs.declared.direction.Direction.{Direction}
use Rattle.rb_text.specs.Tags.{languages_of}
use Rattle.rb_text.specs.declared.feature.Feature.{Feature}
use Rattle.font_variations.specs.FeatureVariations.{substitutions_of}
use Rattle.font_face.specs.declared.face.Face.{Face}
use Rattle.ot_tags.specs.LanguageTags.{tags_of}
use Rattle.ot_map.specs.Asked.{Ask, collected, enabled, named, nothing_yet, with_asks}
use Rattle.ot_map.specs.Chosen.{IsChosenOf}
use Rattle.ot_map.specs.CommonFeatures.{first_features, last_features, user_features}
use Rattle.ot_map.specs.Compiled.{IsCompiled}
use Rattle.ot_map.specs.Requests.{no_flag}
use Rattle.ot_map.specs.declared.builder.PlanBuilder.{PlanBuilder}
use Rattle.script_shapers.specs.ShaperFeatures.{features_of, overrides_of, requires_forms}
use Rattle.script_shapers.specs.declared.shaper.ScriptShaper.{ScriptShaper}
use Rattle.ot_plan.specs.declared.planning.TextPlan.{TextPlan}

-- the tags of a language: those that it names itself, or those of OpenType's registry
abbrev pub language_tags : Option (List ℕ) → List ℕ
language_tags language = languages_of (λ prefix. Some (tags_of language)) [] language

-- Behind the first ones: the feature by which Apple's table `trak` can be turned off, those of the shaper, those of every text and a
-- user's, and what the shaper changes of all these.
abbrev pub other_features : ScriptShaper → Bool → Direction → Option ℕ → List Feature → List Ask
other_features shaper requires direction script features =
    enabled (record no_flag { has_fallback = true }) (named (codes "trak"))
    ∷ features_of shaper script requires ++ last_features direction ++ user_features features ++ overrides_of shaper

-- Its lookups and features are those of what was asked for, a user's features too, with what the font has for these OpenType tags of
-- the script and of the language.
pub record IsAskedFor (face : Face) (direction : Direction) (script : Option ℕ) (scripts languages : List ℕ) (features : List Feature) (plan : TextPlan) : Type 0 where
  pub builder : PlanBuilder
  pub gsub :
      IsChosenOf face.layout.gsub.now (substitutions_of face.layout.gsub.now face.variations.coordinates.items)
      scripts languages builder.gsub
  pub gpos :
      IsChosenOf face.layout.gpos.now (substitutions_of face.layout.gpos.now face.variations.coordinates.items)
      scripts languages builder.gpos
  pub asked : collected builder
      ≡ with_asks (first_features direction ++ other_features plan.script.shaper (requires_forms builder) direction script features)
      nothing_yet
  pub compiled : IsCompiled builder plan.shape.layout
