-- The kinds of subtables, by the type of their lookup and their format (OpenType specification, "GSUB", "GPOS").
use Rattle.std.specs.Prelude.{ℕ, ◌==◌, ◌&&◌, ◌||◌, Bool, false, true, Option, Some, None, option_map, if◌then◌else◌}
use Rattle.ot_lookups.specs.declared.subtable_kind.SubtableKind.{SubtableKind}
use Rattle.ot_lookups.specs.declared.subtable_kind.SubtableKind.TheVariants.{SingleSubstitution, MultipleSubstitution, AlternateSubstitution, LigatureSubstitution, ReverseSubstitution, Context, ChainedContext, SingleAdjustment, PairAdjustment, CursiveAttachment, MarkToBase, MarkToLigature, MarkToMark}
use Rattle.ot_lookups.specs.declared.subtable_kind.SingleFormat.{SingleFormat}
use Rattle.ot_lookups.specs.declared.subtable_kind.SingleFormat.TheVariants as single
use Rattle.ot_lookups.specs.declared.subtable_kind.ContextFormat.{ContextFormat}
use Rattle.ot_lookups.specs.declared.subtable_kind.ContextFormat.TheVariants as context
use Rattle.ot_lookups.specs.declared.subtable_kind.PairFormat.{PairFormat}
use Rattle.ot_lookups.specs.declared.subtable_kind.PairFormat.TheVariants as pair

-- single substitutions have two formats, and so have pairs; contexts, chained or not, have three
abbrev pub single_format : ℕ → Option SingleFormat
single_format format =
    if format == 1 then Some single.Delta else if format == 2 then Some single.Glyphs else None

abbrev pub pair_format : ℕ → Option PairFormat
pair_format format = if format == 1 then Some pair.Glyphs else if format == 2 then Some pair.Classes else None

abbrev pub context_format : ℕ → Option ContextFormat
context_format format =
    if format == 1 then Some context.Glyphs
    else if format == 2 then Some context.Classes
    else if format == 3 then Some context.Coverages
    else None

-- the kind of a subtable of `GSUB`; an extension is read through, and is of no kind
unfoldable pub substitution_kind : ℕ → ℕ → Option SubtableKind
substitution_kind lookup_type format =
    if lookup_type == 1 then option_map SingleSubstitution (single_format format)
    else if (lookup_type == 2) && (format == 1) then Some MultipleSubstitution
    else if (lookup_type == 3) && (format == 1) then Some AlternateSubstitution
    else if (lookup_type == 4) && (format == 1) then Some LigatureSubstitution
    else if lookup_type == 5 then option_map Context (context_format format)
    else if lookup_type == 6 then option_map ChainedContext (context_format format)
    else if (lookup_type == 8) && (format == 1) then Some ReverseSubstitution
    else None

-- that of one of `GPOS`
unfoldable pub positioning_kind : ℕ → ℕ → Option SubtableKind
positioning_kind lookup_type format =
    if (lookup_type == 1) && ((format == 1) || (format == 2)) then Some SingleAdjustment
    else if lookup_type == 2 then option_map PairAdjustment (pair_format format)
    else if (lookup_type == 3) && (format == 1) then Some CursiveAttachment
    else if (lookup_type == 4) && (format == 1) then Some MarkToBase
    else if (lookup_type == 5) && (format == 1) then Some MarkToLigature
    else if (lookup_type == 6) && (format == 1) then Some MarkToMark
    else if lookup_type == 7 then option_map Context (context_format format)
    else if lookup_type == 8 then option_map ChainedContext (context_format format)
    else None

abbrev pub kind_of : Bool → ℕ → ℕ → Option SubtableKind
kind_of is_positioning lookup_type format =
    if is_positioning then positioning_kind lookup_type format else substitution_kind lookup_type format

-- the format of a context, chained or not; other kinds have none
abbrev pub as_context : SubtableKind → Option ContextFormat
as_context (Context format) = Some format
as_context (ChainedContext format) = Some format
as_context _ = None

abbrev pub is_chained : SubtableKind → Bool
is_chained (ChainedContext format) = true
is_chained _ = false

abbrev pub is_single : SubtableKind → Bool
is_single (SingleSubstitution format) = true
is_single _ = false

-- where subtables have the offset of the classes of their input: contexts behind their coverage, chained ones behind the classes of what
-- stands before it too, and pairs behind their formats
abbrev pub input_classes_at : SubtableKind → Option ℕ
input_classes_at (Context context.Classes) = Some 4
input_classes_at (ChainedContext context.Classes) = Some 6
input_classes_at (PairAdjustment pair.Classes) = Some 8
input_classes_at _ = None
