-- Features that have other lookups in a part of the space of variations.
use Rattle.std.specs.Prelude.{ℕ, ℤ, zero, suc, List, [], Option, Some, None, Bool, true, false, ◌+◌, ◌*◌, ◌&&◌, nat_le, unwrap_or, if◌then◌else◌, int_le}
use Rattle.std.specs.Prelude.{option_map}
use Rattle.std.specs.Option.{option_map_or}
use Rattle.font_tables.specs.Bytes.{number_16, number_32, signed_16, table_at_32, is_number}
use Rattle.font_tables.specs.Rows.{first_below}
use Rattle.font_variations.specs.Regions.{coordinate}

-- the FeatureVariations table of `GSUB` or `GPOS`, which their version 1.1 has
abbrev pub of_major_1 : List ℕ → List ℕ
of_major_1 table = if is_number (number_16 table 0) 1 then table else []

unfoldable pub variations_of : List ℕ → List ℕ
variations_of table =
    if is_number (number_16 table 0) 1 && nat_le 1 (unwrap_or (number_16 table 2) 0)
    then of_major_1 (unwrap_or (table_at_32 table 10) []) else []

-- whether a number is there, and lies between two others, which are there
abbrev pub is_between : Option ℤ → ℤ → Option ℤ → Bool
is_between None n most = false
is_between (Some least) n None = false
is_between (Some least) n (Some most) = int_le least n && int_le n most

-- a condition of format 1 holds where the coordinate of its axis lies between its two numbers, and one of another format never
unfoldable pub holds : List ℕ → List ℤ → Bool
holds condition coordinates =
    let axis = unwrap_or (number_16 condition 2) 0 in
    is_number (number_16 condition 0) 1
    && is_between (signed_16 condition 4) (coordinate coordinates axis) (signed_16 condition 6)

-- the condition of a set with this number
abbrev pub condition_of : List ℕ → ℕ → List ℕ
condition_of set row = unwrap_or (table_at_32 set (2 + 4 * row)) []

-- whether the first conditions of a set all hold
abbrev pub first_hold : List ℕ → List ℤ → ℕ → Bool
first_hold set coordinates zero = true
first_hold set coordinates (suc n) = first_hold set coordinates n && holds (condition_of set n) coordinates

-- whether all conditions of a set hold
unfoldable pub all_hold : List ℕ → List ℤ → Bool
all_hold set coordinates = first_hold set coordinates (unwrap_or (number_16 set 0) 0)

-- whether the conditions of a record all hold
abbrev pub record_holds : List ℕ → List ℤ → ℕ → Bool
record_holds variations coordinates row = all_hold (unwrap_or (table_at_32 variations (8 + 8 * row)) []) coordinates

-- the FeatureTableSubstitution table of the first record whose conditions all hold
unfoldable pub substitutions_of : List ℕ → List ℤ → List ℕ
substitutions_of table coordinates =
    let variations = variations_of table in
    option_map_or (λ row. unwrap_or (table_at_32 variations (12 + 8 * row)) [])
    (first_below (record_holds variations coordinates) (unwrap_or (number_32 variations 4) 0)) []

-- the feature table that a FeatureTableSubstitution table puts in the place of the feature with this number: that of its first
-- record for the feature
unfoldable pub substitute_of : List ℕ → ℕ → Option (List ℕ)
substitute_of substitutions feature =
    if is_number (number_16 substitutions 0) 1
    then option_map (λ row. unwrap_or (table_at_32 substitutions (8 + 6 * row)) [])
    (first_below (λ row. is_number (number_16 substitutions (6 + 6 * row)) feature) (unwrap_or (number_16 substitutions 4) 0))
    else None
