-- How the features of a language system are found, place by place.
use Rattle.std.specs.Prelude.{ℕ, Bool, if◌then◌else◌}
use Rattle.font_tables.specs.Bytes.{is_number}
use Rattle.ot_map.specs.Features.{first_feature}
use Rattle.ot_map.specs.Requests.{with_index}
use Rattle.ot_map.specs.Tables.{system_feature, tag_in_system}
use Rattle.ot_map.specs.declared.builder.ChosenTable.{ChosenTable}
use Rattle.ot_map.specs.declared.request.FeatureRequest.{FeatureRequest}

-- a request with the first feature of its tag in so many places
abbrev pub noted : ChosenTable → Bool → ℕ → FeatureRequest → FeatureRequest
noted table is_gsub count q = with_index is_gsub (first_feature table q.tag.0 count) q

-- a request with the feature of a place, if that has its tag
abbrev pub noted_at : ChosenTable → Bool → ℕ → FeatureRequest → FeatureRequest
noted_at table is_gsub place q =
    if is_number (tag_in_system table.lists.features.now table.system.now place) q.tag.0
    then with_index is_gsub (system_feature table.system.now place) q else q
