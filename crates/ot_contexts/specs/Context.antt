-- What a rule that fits at the cursor takes of the glyphs around it, and which rules a context has.
use Rattle.std.specs.Prelude.{ℕ, ◌+◌, ◌*◌, ◌<◌, ◌≤◌, ◌≡◌, List, drop, Option, None, if◌then◌else◌, nat_lt, option_and_then, option_map, unwrap_or}
use Rattle.font_tables.specs.Bytes.{number_16, table_at_16}
use Rattle.font_tables.specs.declared.coverage.Coverage.{Coverage}
use Rattle.ot_contexts.specs.Pattern.{Pattern, covered_pattern, fitting}
use Rattle.ot_contexts.specs.RuleSet.{rule_of_set}
use Rattle.ot_layout.specs.SkippingIterator.{class_in, next_found, place_of}
use Rattle.ot_lookups.specs.LookupProps.{glyph_at}
use Rattle.ot_lookups.specs.SubtableKinds.{as_context, is_chained}
use Rattle.ot_lookups.specs.declared.subtable_kind.ContextFormat.{ContextFormat}
use Rattle.ot_lookups.specs.declared.subtable_kind.ContextFormat.TheVariants as format
use Rattle.ot_contexts.specs.declared.context.Fit.{Fit}
use Rattle.ot_contexts.specs.declared.context.SequenceLookupRecord.{SequenceLookupRecord}
use Rattle.ot_contexts.specs.declared.rule.MatchFunction.{MatchFunction}
use Rattle.ot_contexts.specs.declared.rule.MatchFunction.TheVariants.{Glyphs, Classes}
use Rattle.ot_contexts.specs.declared.rule.MatchFunctions.{MatchFunctions}
use Rattle.ot_layout.specs.declared.search.ApplyContext.{ApplyContext}
use Rattle.ot_lookups.specs.declared.subtable.NextAsked.{NextAsked}
use Rattle.ot_lookups.specs.declared.subtable.Subtable.{Subtable}
use Rattle.ot_layout.specs.declared.skipping_iterator.SkippingIterator.{SkippingIterator}
use Rattle.ot_layout.specs.declared.matcher.Matcher.TheVariants.{Covered}
use Rattle.ot_layout.specs.ApplyContext.{input_iterator}

-- with so many glyphs before the cursor and so many from it on: the input has a glyph, and all that was looked at is there
abbrev pub IsFitWithin : ℕ → ℕ → Fit → Type 0
IsFitWithin out input fit =
    (0 < fit.end) × (fit.end ≤ fit.to) × (fit.to ≤ input) × (fit.from ≤ out)

-- the record of a number: where its lookup is applied, among the glyphs of the input, and which it is
abbrev pub record_at : List ℕ → ℕ → Option SequenceLookupRecord
record_at records index =
    option_and_then (λ sequence_index. option_map (λ lookup. record { sequence_index = sequence_index; lookup = lookup })
    (number_16 records (index * 4 + 2))) (number_16 records (index * 4))

-- the iterator by which a context by coverages looks for the glyph after the one at the cursor
abbrev pub next_walk : NextAsked → ApplyContext → SkippingIterator
next_walk next ctx =
    if next.is_input then input_iterator ctx else record ctx.context { syllable = ctx.syllable }

-- the glyph that such a context asks for does not stand there
abbrev pub IsMissed : NextAsked → ApplyContext → Type 0
IsMissed next ctx =
    place_of (next_found (next_walk next ctx) (Covered next.coverage) ctx.input.now 0) ≡ None

-- the set of this number of a list of sets, their count standing at a place
abbrev pub numbered_set : List ℕ → ℕ → ℕ → Option (List ℕ)
numbered_set table at number =
    if nat_lt number (unwrap_or (number_16 table at) 0) then table_at_16 table (at + (2 + 2 * number)) else None

-- the same meaning in all three parts of a rule
abbrev pub same_match_function : MatchFunction → MatchFunctions
same_match_function match_function = record { backtrack = match_function; input = match_function; lookahead = match_function }

-- the classes of the three parts of a rule
abbrev pub class_meanings : Subtable → MatchFunctions
class_meanings subtable = record {
  backtrack = Classes subtable.backtrack_classes;
  input = Classes subtable.classes;
  lookahead = Classes subtable.lookahead_classes;
}

-- the rule of a context by coverages, of which its own begin at a place in a list
abbrev pub covered_rule : List Coverage → Subtable → Option Pattern
covered_rule coverages subtable =
    covered_pattern (is_chained subtable.kind) (drop subtable.first_coverage coverages) subtable.table.now

-- the rule of a context of a format that is taken at the cursor: the first of the set of the coverage index, or of the class of the glyph
-- there, or the only rule, by coverages, if it fits
abbrev pub rule_by : ContextFormat → List Coverage → Subtable → ℕ → ApplyContext → Option Pattern
rule_by format.Glyphs coverages subtable index ctx =
    rule_of_set ctx (is_chained subtable.kind) (same_match_function Glyphs) (numbered_set subtable.table.now 4 index)
rule_by format.Classes coverages subtable index ctx =
    rule_of_set ctx (is_chained subtable.kind) (class_meanings subtable)
    (numbered_set subtable.table.now (if is_chained subtable.kind then 10 else 6)
    (class_in subtable.classes.table.now (glyph_at ctx.input.now 0).glyph_id))
rule_by format.Coverages coverages subtable index ctx = fitting ctx (covered_rule coverages subtable)

-- that of a subtable; one that is no context has none
unfoldable pub context_rule : List Coverage → Subtable → ℕ → ApplyContext → Option Pattern
context_rule coverages subtable index ctx =
    option_and_then (λ format. rule_by format coverages subtable index ctx) (as_context subtable.kind)
