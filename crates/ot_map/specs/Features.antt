-- The features of a plan, out of those that are asked for.
use Rattle.std.specs.Prelude.{ℕ, Bool, true, false, List, [], ◌∷◌, ◌++◌, Option, Some, None, ◌+◌, ◌&&◌, ◌||◌, nat_eq, nat_lt, not, if◌then◌else◌}
use Rattle.std.specs.Prelude.{is_some, option_map, option_and_then, option_to_list}
use Rattle.font_tables.specs.Bytes.{is_number}
use Rattle.font_tables.specs.Rows.{first_below}
use Rattle.rb_common.specs.declared.tag.Tag.{Tag}
use Rattle.ot_map.specs.Masks.{bits_needed}
use Rattle.ot_map.specs.Requests.{with_index}
use Rattle.ot_map.specs.Tables.{first_record, system_feature, system_feature_count, tag_in_system}
use Rattle.ot_map.specs.declared.bits.FeatureBits.{FeatureBits}
use Rattle.ot_map.specs.declared.builder.ChosenTable.{ChosenTable}
use Rattle.ot_map.specs.declared.plan.PlannedFeature.{PlannedFeature}
use Rattle.ot_map.specs.declared.request.FeatureFlags.{FeatureFlags}
use Rattle.ot_map.specs.declared.request.FeatureRequest.{FeatureRequest}

-- the number of the first feature with a tag among so many that the language system lists
abbrev pub first_feature : ChosenTable → ℕ → ℕ → Option ℕ
first_feature table tag count =
    option_and_then (system_feature table.system.now)
    (first_below (λ place. is_number (tag_in_system table.lists.features.now table.system.now place) tag) count)

-- a request has the first feature with its tag that the language system lists, unless one was noted before
abbrev pub in_systems : ChosenTable → ChosenTable → FeatureRequest → FeatureRequest
in_systems gsub gpos q =
    with_index false (first_feature gpos q.tag.0 (system_feature_count gpos.system.now))
    (with_index true (first_feature gsub q.tag.0 (system_feature_count gsub.system.now)) q)

abbrev pub is_found : FeatureRequest → Bool
is_found q = is_some q.gsub || is_some q.gpos

-- one that is to be searched for, and that neither language system lists, has the first feature with its tag in all of the list
unfoldable pub searched : ChosenTable → ChosenTable → FeatureRequest → FeatureRequest
searched gsub gpos q =
    if q.flags.global_search && not (is_found q)
    then record q {
      gsub = first_record gsub.lists.features.now 0 q.tag.0;
      gpos = first_record gpos.lists.features.now 0 q.tag.0;
    }
    else q

abbrev pub found : ChosenTable → ChosenTable → FeatureRequest → FeatureRequest
found gsub gpos q = searched gsub gpos (in_systems gsub gpos q)

-- The first bit of a request and how many they are, from the first free one on: the one that every glyph has for the value 1 of
-- every glyph; none where it is turned off, or where not so many are free.
unfoldable pub bits_from : ℕ → FeatureRequest → Option (ℕ × ℕ)
bits_from next q =
    if nat_eq q.max_value 0 then None
    else if q.flags.is_global && nat_eq q.max_value 1 then Some (31, 1)
    else if nat_lt (next + bits_needed q.max_value) 31 then Some (next, bits_needed q.max_value)
    else None

abbrev pub bits_seen : FeatureBits → ℕ × ℕ
bits_seen bits = (bits.shift, bits.count)

-- what one sees of a planned feature: what was asked, which features were found, whether that is none, its first bit, and how many
pub record Planned : Type 0 where
  pub tag : Tag
  pub gsub : Option ℕ
  pub gpos : Option ℕ
  pub stage : ℕ
  pub shift : ℕ
  pub count : ℕ
  pub default_value : ℕ
  pub needs_fallback : Bool
  pub flags : FeatureFlags

abbrev pub seen : PlannedFeature → Planned
seen f = record {
  tag = f.tag;
  gsub = f.gsub;
  gpos = f.gpos;
  stage = f.stage;
  shift = f.bits.shift;
  count = f.bits.count;
  default_value = f.default_value;
  needs_fallback = f.needs_fallback;
  flags = f.flags;
}

abbrev pub with_bits : FeatureRequest → ℕ × ℕ → Planned
with_bits q bits = record {
  tag = q.tag;
  gsub = q.gsub;
  gpos = q.gpos;
  stage = q.stage;
  shift = bits.0;
  count = bits.1;
  default_value = q.default_value;
  needs_fallback = not (is_found q);
  flags = q.flags;
}

-- the feature of a request that the font has, or that has a fallback
unfoldable pub planned : ℕ → FeatureRequest → Option Planned
planned next q = if is_found q || q.flags.has_fallback then option_map (with_bits q) (bits_from next q) else None

-- the first free bit behind a feature's own
abbrev pub next_behind : ℕ → Planned → ℕ
next_behind next f = if nat_eq f.shift 31 then next else f.shift + f.count

abbrev pub next_free : ℕ → Option Planned → ℕ
next_free next None = next
next_free next (Some f) = next_behind next f

-- each request in turn takes its bits from the first free one on
abbrev pub planned_features : ℕ → List FeatureRequest → List Planned
planned_features next [] = []
planned_features next (q ∷ others) =
    option_to_list (planned next q) ++ planned_features (next_free next (planned next q)) others
