-- Features that are asked for.
use Rattle.std.specs.Prelude.{ℕ, Bool, Option, true, false, ◌||◌, ◌==◌, List, [], ◌∷◌, None, if◌then◌else◌, max, min, nat_lt}
use Rattle.std.specs.Option.{option_or}
use Rattle.rb_common.specs.declared.tag.Tag.{Tag}
use Rattle.ot_map.specs.declared.request.FeatureFlags.{FeatureFlags}
use Rattle.ot_map.specs.declared.request.FeatureRequest.{FeatureRequest}
use Rattle.ot_map.specs.Order.{KeysRise}

-- for every glyph, and with no other flag
abbrev pub every_glyph : FeatureFlags
every_glyph = record {
  is_global = true;
  has_fallback = false;
  manual_zwnj = false;
  manual_zwj = false;
  global_search = false;
  random = false;
  per_syllable = false;
}

abbrev pub no_flag : FeatureFlags
no_flag = record every_glyph { is_global = false }

-- an input passes over no joiner
abbrev pub over_no_joiner : FeatureFlags
over_no_joiner = record no_flag { manual_zwj = true }

-- a value that is asked for: each glyph has it by default, if the feature is one of every glyph
unfoldable pub requested : Tag → FeatureFlags → ℕ → ℕ → FeatureRequest
requested tag flags value stage = record {
  tag = tag;
  flags = flags;
  max_value = value;
  default_value = if flags.is_global then value else 0;
  stage = stage;
  gsub = None;
  gpos = None;
}

-- a request and a later one of the same tag: what is asked for every glyph takes the place of the values before; what is asked for a
-- part of the text leaves the default as it was. The lookups are applied in the earlier stage
unfoldable pub merged : FeatureRequest → FeatureRequest → FeatureRequest
merged before later = record before {
  flags = record before.flags {
    is_global = later.flags.is_global;
    has_fallback = before.flags.has_fallback || later.flags.has_fallback;
  };
  max_value = if later.flags.is_global then later.max_value else max before.max_value later.max_value;
  default_value = if later.flags.is_global then later.default_value else before.default_value;
  stage = min before.stage later.stage;
}

-- a request with the number of a feature of GSUB, or else of GPOS, if none was noted before
abbrev pub with_index : Bool → Option ℕ → FeatureRequest → FeatureRequest
with_index true index q = record q { gsub = option_or q.gsub index }
with_index false index q = record q { gpos = option_or q.gpos index }

-- requests in the order of their tags, each tag once
abbrev pub AreInOrder : List FeatureRequest → Type 0
AreInOrder requests = KeysRise (λ request. request.tag.0) requests

-- one more request, in its place by its tag; the request of its tag, if there is one, takes it in
abbrev pub with_request : FeatureRequest → List FeatureRequest → List FeatureRequest
with_request later [] = later ∷ []
with_request later (request ∷ others) =
    if request.tag.0 == later.tag.0 then merged request later ∷ others
    else if nat_lt later.tag.0 request.tag.0 then later ∷ request ∷ others
    else request ∷ with_request later others
