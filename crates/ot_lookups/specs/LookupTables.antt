-- Lookups, by the bytes of their list (OpenType specification, "OpenType Layout Common Table Formats", "Lookup List table", "Lookup
-- table").
use Rattle.std.specs.Prelude.{ℕ, zero, suc, ◌+◌, ◌*◌, ◌++◌, ◌∷◌, List, [], unwrap_or, option_map, if◌then◌else◌}
use Rattle.font_tables.specs.Bytes.{is_number, number_16, table_at_16, table_at_32}
use Rattle.font_tables.specs.Gdef.{mark_glyph_set}
use Rattle.font_tables.specs.Rows.{rows_within}
use Rattle.ot_lookups.specs.LookupProps.{share}
use Rattle.ot_lookups.specs.SubtableLimit.{has_too_many, lookup_count}
use Rattle.ot_lookups.specs.declared.lookup_list.Lookup.{Lookup}

-- the type of a lookup, its flag, and how many subtables it says that it has
abbrev pub lookup_type : List ℕ → ℕ
lookup_type table = unwrap_or (number_16 table 0) 0

abbrev pub lookup_flag : List ℕ → ℕ
lookup_flag table = unwrap_or (number_16 table 2) 0

abbrev pub declared_subtables : List ℕ → ℕ
declared_subtables table = unwrap_or (number_16 table 4) 0

-- the coverage table of the set in `GDEF` whose number stands behind the offsets of the subtables
abbrev pub marks_at : List ℕ → List ℕ → List ℕ
marks_at gdef table =
    unwrap_or (option_map (mark_glyph_set gdef) (number_16 table (6 + 2 * declared_subtables table))) []

-- the mark filtering set of a lookup: it has one where its flag says so (USE_MARK_FILTERING_SET, bit 4)
abbrev pub mark_filtering_set : List ℕ → List ℕ → List ℕ
mark_filtering_set gdef table = if share (lookup_flag table) 16 then marks_at gdef table else []

-- what a lookup says of all its subtables: its type, its flag, and its mark filtering set
abbrev pub Head : Type 0
Head = ℕ × ℕ × List ℕ

abbrev pub head_of : Lookup → Head
head_of lookup = (lookup.lookup_type, lookup.lookup_props.flags, lookup.lookup_props.marks.table.now)

abbrev pub head_in : List ℕ → List ℕ → Head
head_in gdef table = (lookup_type table, lookup_flag table, mark_filtering_set gdef table)

-- the first so many lookups of a list
abbrev pub heads_of_first : List ℕ → List ℕ → ℕ → List Head
heads_of_first gdef list zero = []
heads_of_first gdef list (suc n) =
    heads_of_first gdef list n ++ head_in gdef (unwrap_or (table_at_16 list (2 + 2 * n)) []) ∷ []

-- all of them whose offsets lie in the list; none where they have too many subtables
abbrev pub heads_in : List ℕ → List ℕ → List Head
heads_in gdef list =
    if has_too_many list then [] else heads_of_first gdef list (rows_within list 2 2 (lookup_count list))

-- the kind of the subtable behind an extension, which has one format, and its table; no kind and no table behind another format
abbrev pub extended_kind : List ℕ → ℕ
extended_kind table = if is_number (number_16 table 0) 1 then unwrap_or (number_16 table 2) 0 else 0

abbrev pub extended_table : List ℕ → List ℕ
extended_table table = if is_number (number_16 table 0) 1 then unwrap_or (table_at_32 table 4) [] else []
