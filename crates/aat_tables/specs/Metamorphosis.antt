-- The table `morx`: chains of features and subtables, one after the other.
use Rattle.std.specs.Prelude.{◌≤◌, ◌+◌, ◌*◌, ◌-◌, ◌/◌, ◌%◌, ◌&&◌, ◌++◌, ◌∷◌, [], ℕ, zero, suc, ⊤, Bool, List, Option, Some, None, length, drop, take, map, nat_eq, nat_le, nat_lt}
use Rattle.std.specs.Prelude.{bit_and, if◌then◌else◌, not, option_and_then, option_map, slice_range, unwrap_or}
use Rattle.font_tables.specs.Bytes.{number_16, number_32}
use Rattle.aat_tables.specs.declared.metamorphosis.Chain.{Chain}
use Rattle.aat_tables.specs.declared.metamorphosis.ChainFeature.{ChainFeature}
use Rattle.aat_tables.specs.declared.metamorphosis.SubtableCoverage.{SubtableCoverage}
use Rattle.aat_tables.specs.declared.metamorphosis.Subtable.{Subtable}
use Rattle.aat_tables.specs.declared.metamorphosis.SubtableKind.{SubtableKind}
use Rattle.aat_tables.specs.declared.metamorphosis.SubtableKind.TheVariants.{Rearrangement, Contextual, Ligature, Noncontextual, Insertion}

-- features are rows of twelve bytes
abbrev pub feature_count : List ℕ → ℕ
feature_count features = length features / 12

-- a feature: the type, the setting, the flags that it turns on, and those that it leaves on
abbrev pub feature_at : List ℕ → ℕ → Option ChainFeature
feature_at features row =
    if nat_lt row (feature_count features)
    then option_and_then (λ kind. option_and_then (λ setting. option_and_then (λ enable. option_map
    (λ disable. record { kind = kind; setting = setting; enable = enable; disable = disable })
    (number_32 features (12 * row + 8))) (number_32 features (12 * row + 4))) (number_16 features (12 * row + 2)))
    (number_16 features (12 * row))
    else None

-- a number of 32 bits, or 0 where the table is cut short
abbrev pub number_or_0 : List ℕ → ℕ → ℕ
number_or_0 table at = unwrap_or (number_32 table at) 0

-- what a subtable does, by its number
abbrev pub kind_of : ℕ → Option SubtableKind
kind_of number =
    if nat_eq number 0 then Some Rearrangement
    else if nat_eq number 1 then Some Contextual
    else if nat_eq number 2 then Some Ligature
    else if nat_eq number 4 then Some Noncontextual
    else if nat_eq number 5 then Some Insertion
    else None

-- whether a bit is set
abbrev pub has_bit : ℕ → ℕ → Bool
has_bit bits bit = not (nat_eq (bit_and bits bit) 0)

-- the four highest bits: vertical lines, backwards, lines of both kinds, and the order of the characters
abbrev pub coverage_of : ℕ → SubtableCoverage
coverage_of bits = record {
  is_vertical = has_bit bits 0x80000000;
  is_backwards = has_bit bits 0x40000000;
  all_directions = has_bit bits 0x20000000;
  is_logical = has_bit bits 0x10000000;
}

-- what a subtable has, but for the digest of its glyphs
pub record SubtableParts : Type 0 where
  pub kind : SubtableKind
  pub coverage : SubtableCoverage
  pub flags : ℕ
  pub table : List ℕ

abbrev pub parts_of : Subtable → SubtableParts
parts_of subtable = record {
  kind = subtable.kind;
  coverage = subtable.coverage;
  flags = subtable.flags;
  table = subtable.table.now;
}

-- the subtable at the start of these bytes: behind its length stand its coverage, in whose lowest byte is what it does, and its flags.
-- Its table goes up to the end of the bytes, since what it leads to may stand behind it.
abbrev pub parts_at : List ℕ → SubtableKind → SubtableParts
parts_at start kind = record {
  kind = kind;
  coverage = coverage_of (number_or_0 start 4);
  flags = number_or_0 start 8;
  table = drop 12 start;
}

-- of a kind that is not known there is none
abbrev pub with_kind : List ℕ → Option SubtableKind → List SubtableParts
with_kind start None = []
with_kind start (Some kind) = parts_at start kind ∷ []

abbrev pub subtable_at : List ℕ → List SubtableParts
subtable_at start = with_kind start (kind_of (number_or_0 start 4 % 256))

-- the length of a subtable is that of a header at least, and does not lead out of its chain
abbrev pub is_whole_subtable : ℕ → List ℕ → Bool
is_whole_subtable within start = nat_le 12 (number_or_0 start 0) && nat_le (number_or_0 start 0) within

-- so many subtables, one after the other, of which so many bytes belong to the chain; none where one is cut short
abbrev pub subtables_in : ℕ → ℕ → List ℕ → Option (List SubtableParts)
subtables_in zero within start = Some []
subtables_in (suc count) within start =
    if is_whole_subtable within start
    then option_map (λ others. subtable_at start ++ others)
    (subtables_in count (within - number_or_0 start 0) (drop (number_or_0 start 0) start))
    else None

-- what a chain has
pub record ChainParts : Type 0 where
  pub default_flags : ℕ
  pub features : List ℕ
  pub subtables : List SubtableParts

-- where the subtables of a chain begin: behind its header of sixteen bytes and its features, of which it says how many there are
abbrev pub subtables_start : List ℕ → ℕ
subtables_start start = 16 + 12 * number_or_0 start 8

-- the length of a chain holds its header and its features, and does not lead out of the table
abbrev pub is_whole_chain : List ℕ → Bool
is_whole_chain start =
    nat_le 16 (number_or_0 start 4) && (nat_le (number_or_0 start 4) (length start) && nat_le (subtables_start start) (number_or_0 start 4))

-- the chain at the start of these bytes; none where one of its subtables is cut short
abbrev pub chain_at : List ℕ → Option ChainParts
chain_at start =
    option_map (λ subtables. record {
      default_flags = number_or_0 start 0;
      features = take (12 * number_or_0 start 8) (drop 16 start);
      subtables = subtables;
    })
    (subtables_in (number_or_0 start 12) (number_or_0 start 4 - subtables_start start) (drop (subtables_start start) start))

abbrev pub first_chain : List ℕ → Option ChainParts
first_chain start = if is_whole_chain start then chain_at start else None

-- so many chains, one after the other; none where one is cut short
abbrev pub chains_in : ℕ → List ℕ → Option (List ChainParts)
chains_in zero start = Some []
chains_in (suc count) start =
    option_and_then (λ chain. option_map (λ others. chain ∷ others) (chains_in count (drop (number_or_0 start 4) start)))
    (first_chain start)

-- the chains of a table: none where its version is 0
abbrev pub chains_of : List ℕ → List ChainParts
chains_of table =
    if nat_eq (unwrap_or (number_16 table 0) 0) 0 then []
    else unwrap_or (chains_in (number_or_0 table 4) (drop 8 table)) []

-- what a chain that was read has, of these subtables
abbrev pub read_chain : List SubtableParts → Chain → ChainParts
read_chain subtables chain = record {
  default_flags = chain.default_flags;
  features = chain.features.now;
  subtables = slice_range subtables chain.first chain.last;
}

abbrev pub read_chains : List Subtable → List Chain → List ChainParts
read_chains subtables chains = map (read_chain (map parts_of subtables)) chains

-- the subtables of each chain lie among those that were read
abbrev pub AreWithin : ℕ → List Chain → Type 0
AreWithin count [] = ⊤
AreWithin count (chain ∷ chains) = ((chain.first ≤ chain.last) × (chain.last ≤ count)) × AreWithin count chains
