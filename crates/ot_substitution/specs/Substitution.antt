-- What the subtables of `GSUB` say of a glyph.
use Rattle.std.specs.Prelude.{◌≡◌, ◌≢◌, ℕ, ◌+◌, ◌-◌, ◌*◌, ◌%◌, ◌/◌, ◌^◌, ◌==◌, ◌&&◌, List, Option, Some, None, nat_lt, nat_le, unwrap_or, option_map, option_and_then, drop, slice_index, if◌then◌else◌, bit_and, IsTrue, false, Bool, is_some}
use Rattle.std.specs.List.{list_any}
use Rattle.std.specs.Int.{trailing_zeros, w32}
use Rattle.font_tables.specs.Bytes.{number_16}
use Rattle.rb_glyph.specs.declared.info.hb_glyph_info_t.{hb_glyph_info_t}
use Rattle.ot_lookups.specs.LookupProps.{glyph_at}
use Rattle.glyph_digests.specs.Covered.{covered_index}
use Rattle.ot_substitution.specs.GlyphTable.{listed, listed_glyph}
use Rattle.ot_lookups.specs.Sets.{set_at}
use Rattle.ot_lookups.specs.declared.subtable_kind.SubtableKind.{SubtableKind}
use Rattle.ot_lookups.specs.declared.subtable_kind.SubtableKind.TheVariants.{SingleSubstitution}
use Rattle.ot_lookups.specs.declared.subtable_kind.SingleFormat.TheVariants as format
use Rattle.ot_contexts.specs.Rule.{AreMatchPositions, matcher_by}
use Rattle.ot_contexts.specs.declared.rule.MatchFunction.TheVariants as rule
use Rattle.ot_layout.specs.declared.search.ApplyContext.{ApplyContext}
use Rattle.ot_lookups.specs.declared.subtable.Subtable.{Subtable}
use Rattle.ot_substitution.specs.declared.substitution.Edit.{Edit}
use Rattle.ot_substitution.specs.declared.substitution.Edit.TheVariants.{Replace, Choose, Multiply, Ligate, Apply, ReplaceInPlace}
use Rattle.ot_layout.specs.ApplyContext.{input_iterator}

-- the single substitution of a glyph with this coverage index: format 1 adds a number, format 2 lists the glyphs
unfoldable pub single : SubtableKind → List ℕ → ℕ → ℕ → Option ℕ
single (SingleSubstitution format.Delta) table glyph index =
    option_map (λ delta. (glyph % 65536 + delta) % 65536) (number_16 table 4)
single (SingleSubstitution format.Glyphs) table glyph index =
    if nat_lt index (unwrap_or (number_16 table 4) 0) then number_16 table (6 + 2 * index) else None
single _ table glyph index = None

-- the edit puts the glyphs of a sequence in the place of one: a single one replaces it
abbrev pub IsSequence : List ℕ → Edit → Type 0
IsSequence table (Replace glyph) = (listed table ≡ 1) × (glyph ≡ listed_glyph table 0)
IsSequence table (Multiply glyphs) = (listed table ≢ 1) × (glyphs.table.now ≡ table)
IsSequence table (Choose glyphs) = IsTrue false
IsSequence table (Ligate ligation) = IsTrue false
IsSequence table (Apply fit) = IsTrue false
IsSequence table (ReplaceInPlace change) = IsTrue false

-- the alternate that a value chooses: 1 chooses the first, and 0 none
abbrev pub alternate_of : List ℕ → ℕ → Option ℕ
alternate_of table value =
    if nat_lt 0 value && nat_le value (listed table) then Some (listed_glyph table (value - 1)) else None

-- the value of a feature: what its bits hold in a glyph's mask
abbrev pub feature_value : ℕ → ℕ → ℕ
feature_value feature mask =
    if feature == 0 then 0 else bit_and feature mask / 2 ^ trailing_zeros w32 feature

-- the glyph of a coverage index, if there is one, becomes the glyph that the index leads to
abbrev pub replaced_by : (ℕ → Option ℕ) → Option ℕ → Option Edit
replaced_by glyph index = option_map Replace (option_and_then glyph index)

-- an edit that puts the sequence of a coverage index in the place of the glyph; none without an index
abbrev pub IsMultiple : List ℕ → Option ℕ → Option Edit → Type 0
IsMultiple table None edit = edit ≡ None
IsMultiple table (Some index) None = IsTrue false
IsMultiple table (Some index) (Some edit) = IsSequence (set_at table index) edit

-- The edit is that of this ligature: its glyph stands for the components, each of which is the next glyph that counts. One
-- of a single component replaces it.
abbrev pub IsLigature : List ℕ → ApplyContext → List ℕ → Edit → Type 0
IsLigature table ctx places (Replace glyph) = (number_16 table 2 ≡ Some 1) × (number_16 table 0 ≡ Some glyph)
IsLigature table ctx places (Ligate ligation) =
    (number_16 table 0 ≡ Some ligation.ligature)
    × AreMatchPositions (input_iterator ctx) (matcher_by rule.Glyphs (drop 4 table)) ctx.input.now (unwrap_or (number_16 table 2) 0 - 1) places
    × (ligation.end ≡ slice_index places (unwrap_or (number_16 table 2) 0 - 1) + 1)
IsLigature table ctx places (Choose glyphs) = IsTrue false
IsLigature table ctx places (Multiply glyphs) = IsTrue false
IsLigature table ctx places (Apply fit) = IsTrue false
IsLigature table ctx places (ReplaceInPlace change) = IsTrue false

-- the glyph at the cursor
abbrev pub cursor_glyph : ApplyContext → hb_glyph_info_t
cursor_glyph ctx = glyph_at ctx.input.now 0

-- whether one of these subtables has something to do at a glyph: its coverage has it
abbrev pub begins_with : List Subtable → ℕ → Bool
begins_with subtables glyph = list_any (λ subtable. is_some (covered_index subtable.coverage.table.now glyph)) subtables
