-- What entries of state tables do, and which settings of Apple's features count (Apple's TrueType Reference Manual, "The 'morx' table").
use Rattle.std.specs.Prelude.{ℕ, Bool, true, false, not, ◌&&◌, ◌||◌, List, [], ◌∷◌, ◌+◌, ◌-◌, ◌*◌, ◌/◌, ◌%◌, ◌^◌, nat_eq, nat_le, nat_lt, min, drop}
use Rattle.std.specs.Prelude.{bit_and, bit_or, codes, find, option_map, slice_get, slice_index, slice_set, unwrap_or, Option, if◌then◌else◌, ◌==◌}
use Rattle.font_tables.specs.Bytes.{number_32}
use Rattle.rb_common.specs.Direction.{is_forward, is_horizontal}
use Rattle.rb_common.specs.Tag.{tag_of}
use Rattle.rb_common.specs.declared.tag.Tag.{Tag}
use Rattle.rb_glyph.specs.Rows.{rise}
use Rattle.rb_common.specs.declared.direction.Direction.{Direction}
use Rattle.aat_tables.specs.declared.metamorphosis.SubtableCoverage.{SubtableCoverage}
use Rattle.aat_tables.specs.declared.state_table.Entry.{Entry}
use Rattle.aat_substitution.specs.declared.action.Action.{Action}
use Rattle.aat_substitution.specs.declared.action.Action.TheVariants.{Rearrangement, Contextual, Ligature, Insertion}
use Rattle.aat_substitution.specs.declared.chain_flags.ChainFlags.{ChainFlags}
use Rattle.aat_substitution.specs.declared.feature_mapping.FeatureMapping.{FeatureMapping}
use Rattle.aat_substitution.specs.declared.selection.SelectedFeature.{SelectedFeature}

-- whether an entry has one of these flags
abbrev pub has_flag : Entry → ℕ → Bool
has_flag entry flag = not (nat_eq (bit_and entry.flags flag) 0)

-- the list of a subtable to which the offset at a place leads
abbrev pub list_at : List ℕ → ℕ → List ℕ
list_at table at = drop (unwrap_or (number_32 table at) 0) table

-- whether what a subtable does leaves the glyphs in their list
abbrev pub is_in_place : Action → Bool
is_in_place (Rearrangement _) = true
is_in_place (Contextual _) = true
is_in_place (Ligature _) = false
is_in_place (Insertion _) = false

-- ---- ligatures

-- a place of the stack of components, of which the last 64 are kept, and how many there are below one that is pushed: the place on top
-- is not pushed once more
abbrev pub place_on : List ℕ → ℕ → ℕ
place_on places component = slice_index places (component % 64)

abbrev pub below : List ℕ → ℕ → ℕ → ℕ
below places count place =
    if nat_lt 0 count && nat_eq (place_on places (count - 1)) place then count - 1 else count

-- the stack behind that
abbrev pub pushed_places : List ℕ → ℕ → ℕ → List ℕ
pushed_places places count place = slice_set places (below places count place % 64) place

abbrev pub pushed_count : List ℕ → ℕ → ℕ → ℕ
pushed_count places count place = min (below places count place + 1) (2 ^ 64 - 1)

-- the number of a glyph among components: the offset of an action has 30 bits, of which the highest is its sign
abbrev pub component_of : ℕ → ℕ → ℕ
component_of glyph action =
    let offset = bit_and action 0x3FFFFFFF in
    (glyph + (if nat_eq (bit_and offset 0x20000000) 0 then offset else bit_or offset 0xC0000000)) % 2 ^ 32

-- ---- insertions

-- whether an entry puts glyphs in: it says how many, and which, beside the marked glyph or the current one
abbrev pub puts_in : Entry → Bool
puts_in entry =
    has_flag entry 0x03FF && (not (nat_eq (slice_index entry.«data» 0) 0xFFFF) || not (nat_eq (slice_index entry.«data» 1) 0xFFFF))

-- ---- subtables

-- whether a subtable is for a line, and whether it goes over the glyphs from the last one on
abbrev pub is_for_line : SubtableCoverage → Direction → Bool
is_for_line coverage direction =
    coverage.all_directions
    || (if coverage.is_vertical then not (is_horizontal direction) else is_horizontal direction)

abbrev pub is_reversed : SubtableCoverage → Direction → Bool
is_reversed coverage direction =
    if coverage.is_logical then coverage.is_backwards
    else if is_forward direction then coverage.is_backwards else not coverage.is_backwards

-- ---- settings

-- whether clusters from one on have a setting: a feature that ends before it begins does not end
abbrev pub is_for : SelectedFeature → ℕ → Bool
is_for f cluster =
    not (nat_eq f.start f.end) && (nat_le f.start cluster && (nat_lt cluster f.end || nat_lt f.end f.start))

-- whether a setting turns on or off what another one does: those of a pair, or all of an exclusive feature
abbrev pub is_like : SelectedFeature → ℕ → ℕ → Bool
is_like f kind setting = nat_eq f.kind kind && (f.is_exclusive || nat_eq (f.setting / 2) (setting / 2))

-- whether a setting is selected: the first of those like it counts
unfoldable pub is_selected : List SelectedFeature → ℕ → ℕ → ℕ → Bool
is_selected [] start kind setting = false
is_selected (f ∷ fs) start kind setting =
    if is_for f start && is_like f kind setting then nat_eq f.setting setting else is_selected fs start kind setting

-- small capitals also count by the old feature of letters
abbrev pub is_asked_for : List SelectedFeature → ℕ → ℕ → ℕ → Bool
is_asked_for fs start kind setting =
    is_selected fs start kind setting || (nat_eq kind 3 && (nat_eq setting 3 && is_selected fs start 37 1))

-- the flags of a chain in a part: those of all chains in the first part stand before those in the next one
abbrev pub flags_in : ChainFlags → ℕ → ℕ → ℕ
flags_in flags chain part =
    unwrap_or (slice_get flags.flags.items (min (min (part * flags.chain_count) (2 ^ 64 - 1) + chain) (2 ^ 64 - 1))) 0

-- ---- features

-- a feature of OpenType: its tag, the type of Apple's feature that stands for it, and the settings that turn it on and off
abbrev pub row : List ℕ → ℕ → ℕ → ℕ → ℕ × ℕ × ℕ × ℕ
row tag kind enable disable = (tag_of tag, kind, enable, disable)

-- the features (HarfBuzz, `feature_mappings`)
abbrev pub features : List (ℕ × ℕ × ℕ × ℕ)
features =
    row (codes "afrc") 11 1 0 ∷ row (codes "c2pc") 38 2 0 ∷ row (codes "c2sc") 38 1 0 ∷ row (codes "calt") 36 0 1
    ∷ row (codes "case") 33 0 1 ∷ row (codes "clig") 1 18 19 ∷ row (codes "cpsp") 33 2 3 ∷ row (codes "cswh") 36 4 5
    ∷ row (codes "dlig") 1 4 5 ∷ row (codes "expt") 20 10 16 ∷ row (codes "frac") 11 2 0 ∷ row (codes "fwid") 22 1 7
    ∷ row (codes "halt") 22 6 7 ∷ row (codes "hist") 40 0 1 ∷ row (codes "hkna") 34 0 1 ∷ row (codes "hlig") 1 20 21
    ∷ row (codes "hngl") 23 1 0 ∷ row (codes "hojo") 20 12 16 ∷ row (codes "hwid") 22 2 7 ∷ row (codes "ital") 32 2 3
    ∷ row (codes "jp04") 20 11 16 ∷ row (codes "jp78") 20 2 16 ∷ row (codes "jp83") 20 3 16 ∷ row (codes "jp90") 20 4 16
    ∷ row (codes "liga") 1 2 3 ∷ row (codes "lnum") 21 1 2 ∷ row (codes "mgrk") 15 10 11 ∷ row (codes "nlck") 20 13 16
    ∷ row (codes "onum") 21 0 2 ∷ row (codes "ordn") 10 3 0 ∷ row (codes "palt") 22 5 7 ∷ row (codes "pcap") 37 2 0
    ∷ row (codes "pkna") 22 0 7 ∷ row (codes "pnum") 6 1 4 ∷ row (codes "pwid") 22 0 7 ∷ row (codes "qwid") 22 4 7
    ∷ row (codes "rlig") 1 0 1 ∷ row (codes "ruby") 28 2 3 ∷ row (codes "sinf") 10 4 0 ∷ row (codes "smcp") 37 1 0
    ∷ row (codes "smpl") 20 1 16 ∷ row (codes "ss01") 35 2 3 ∷ row (codes "ss02") 35 4 5 ∷ row (codes "ss03") 35 6 7
    ∷ row (codes "ss04") 35 8 9 ∷ row (codes "ss05") 35 10 11 ∷ row (codes "ss06") 35 12 13 ∷ row (codes "ss07") 35 14 15
    ∷ row (codes "ss08") 35 16 17 ∷ row (codes "ss09") 35 18 19 ∷ row (codes "ss10") 35 20 21 ∷ row (codes "ss11") 35 22 23
    ∷ row (codes "ss12") 35 24 25 ∷ row (codes "ss13") 35 26 27 ∷ row (codes "ss14") 35 28 29 ∷ row (codes "ss15") 35 30 31
    ∷ row (codes "ss16") 35 32 33 ∷ row (codes "ss17") 35 34 35 ∷ row (codes "ss18") 35 36 37 ∷ row (codes "ss19") 35 38 39
    ∷ row (codes "ss20") 35 40 41 ∷ row (codes "subs") 10 2 0 ∷ row (codes "sups") 10 1 0 ∷ row (codes "swsh") 36 2 3
    ∷ row (codes "titl") 19 4 0 ∷ row (codes "tnam") 20 14 16 ∷ row (codes "tnum") 6 0 4 ∷ row (codes "trad") 20 0 16
    ∷ row (codes "twid") 22 3 7 ∷ row (codes "unic") 3 14 15 ∷ row (codes "valt") 22 5 7 ∷ row (codes "vert") 4 0 1
    ∷ row (codes "vhal") 22 6 7 ∷ row (codes "vkna") 34 2 3 ∷ row (codes "vpal") 22 5 7 ∷ row (codes "vrt2") 4 0 1
    ∷ row (codes "vrtr") 4 2 3 ∷ row (codes "zero") 14 4 5 ∷ []

-- whether the tags of rows rise, and what the row of a tag holds
abbrev pub tags_rise : List (ℕ × ℕ × ℕ × ℕ) → Bool
tags_rise rows = rise (λ a b. nat_lt a.0 b.0) rows

abbrev pub settings_of : ℕ → List (ℕ × ℕ × ℕ × ℕ) → Option (ℕ × ℕ × ℕ)
settings_of tag rows = option_map (λ found. (found.1, found.2, found.3)) (find (λ found. found.0 == tag) rows)

-- the feature of Apple's that stands for a feature of OpenType
unfoldable pub mapping_of : Tag → Option FeatureMapping
mapping_of tag =
    option_map (λ found. record { tag = tag; kind = found.0; enable = found.1; disable = found.2 }) (settings_of tag.0 features)
