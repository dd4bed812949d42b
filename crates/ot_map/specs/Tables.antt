-- The script list and the feature list of a table GSUB or GPOS.
use Rattle.std.specs.Prelude.{ℕ, Bool, List, [], Option, Some, None, ◌+◌, ◌*◌, nat_eq, nat_lt, if◌then◌else◌, option_and_then, unwrap_or}
use Rattle.std.specs.Prelude.{is_some}
use Rattle.font_tables.specs.Bytes.{number_16, number_32, table_at_16, is_number}
use Rattle.font_tables.specs.Rows.{first_below, rows_within}
use Rattle.font_variations.specs.FeatureVariations.{substitute_of}

-- the list that the offset at a place leads to, in a table of the major version 1; an empty one where there is none
abbrev pub list_of : List ℕ → ℕ → List ℕ
list_of table at = if is_number (number_16 table 0) 1 then unwrap_or (table_at_16 table at) [] else []

-- how many lookups the table declares
abbrev pub lookup_count : List ℕ → ℕ
lookup_count table = unwrap_or (number_16 (list_of table 8) 0) 0

-- Records of a tag and an offset stand behind their count, which stands at a place. How many of them lie in the list:
abbrev pub record_count : List ℕ → ℕ → ℕ
record_count list at = rows_within list (at + 2) 6 (unwrap_or (number_16 list at) 0)

abbrev pub record_tag : List ℕ → ℕ → ℕ → Option ℕ
record_tag list at row = number_32 list (at + 2 + 6 * row)

-- the first record that has a tag
abbrev pub first_record : List ℕ → ℕ → ℕ → Option ℕ
first_record list at tag = first_below (λ row. is_number (record_tag list at row) tag) (record_count list at)

-- the table that a record leads to, from the start of the list; an empty one where its offset is 0
abbrev pub table_of_record : List ℕ → ℕ → ℕ → List ℕ
table_of_record list at row = unwrap_or (table_at_16 list (at + 6 + 6 * row)) []

-- the tag of a feature; `None` where the list has none with this number
unfoldable pub feature_tag : List ℕ → ℕ → Option ℕ
feature_tag features index = if nat_lt index (record_count features 0) then record_tag features 0 index else None

-- the table of a feature
unfoldable pub feature_table : List ℕ → ℕ → List ℕ
feature_table features index = if nat_lt index (record_count features 0) then table_of_record features 0 index else []

-- the table of a feature, or the one that a FeatureTableSubstitution table puts in its place
unfoldable pub chosen_feature_table : List ℕ → List ℕ → ℕ → List ℕ
chosen_feature_table features substitutions index =
    unwrap_or (substitute_of substitutions index) (feature_table features index)

-- how many lookups a feature lists
abbrev pub feature_lookup_count : List ℕ → ℕ
feature_lookup_count feature = rows_within feature 4 2 (unwrap_or (number_16 feature 2) 0)

-- the lookup that a feature lists in a place
abbrev pub feature_lookup : List ℕ → ℕ → Option ℕ
feature_lookup feature place = number_16 feature (4 + 2 * place)

-- the feature that a language system requires; the number 65,535 stands for none
abbrev pub required : ℕ → Option ℕ
required index = if nat_eq index 65535 then None else Some index

unfoldable pub required_feature : List ℕ → Option ℕ
required_feature system = option_and_then required (number_16 system 2)

-- how many features a language system lists
abbrev pub system_feature_count : List ℕ → ℕ
system_feature_count system = rows_within system 6 2 (unwrap_or (number_16 system 4) 0)

-- the number of the feature that a language system lists in a place
abbrev pub system_feature : List ℕ → ℕ → Option ℕ
system_feature system place = number_16 system (6 + 2 * place)

-- the tag of the feature that a language system lists in a place
abbrev pub tag_in_system : List ℕ → List ℕ → ℕ → Option ℕ
tag_in_system features system place = option_and_then (feature_tag features) (system_feature system place)

-- whether a language system lists a feature with a tag
abbrev pub lists_feature : List ℕ → List ℕ → ℕ → Bool
lists_feature features system tag =
    is_some (first_below (λ place. is_number (tag_in_system features system place) tag) (system_feature_count system))
