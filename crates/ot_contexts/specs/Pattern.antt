-- What the rules of contexts ask of the glyphs around the cursor, by the bytes of their tables, and where these stand.
use Rattle.std.specs.Prelude.{ℕ, ◌≡◌, ◌+◌, ◌-◌, ◌*◌, ◌&&◌, Bool, false, IsTrue, List, [], drop, Option, None, Some, is_some, option_map, option_and_then, slice_get, if◌then◌else◌}
use Rattle.font_tables.specs.Bytes.{number_16}
use Rattle.font_tables.specs.declared.coverage.Coverage.{Coverage}
use Rattle.ot_contexts.specs.Match.{lookahead_end, backtrack_start, match_end, match_places}
use Rattle.ot_contexts.specs.Rule.{sequence_matcher, matcher_by}
use Rattle.ot_contexts.specs.declared.context.Fit.{Fit}
use Rattle.ot_contexts.specs.declared.rule.MatchFunction.{MatchFunction}
use Rattle.ot_contexts.specs.declared.rule.MatchFunction.TheVariants.{Glyphs}
use Rattle.ot_contexts.specs.declared.rule.MatchFunctions.{MatchFunctions}
use Rattle.ot_contexts.specs.declared.rule.Rule.{Rule}
use Rattle.ot_layout.specs.declared.search.ApplyContext.{ApplyContext}
use Rattle.ot_layout.specs.declared.matcher.Matcher.{Matcher}
use Rattle.ot_layout.specs.declared.matcher.Matcher.TheVariants.{Covered}

-- what a rule asks of glyphs by their numbers, and how many there are: before the cursor, the nearest first; of the input, after its
-- first glyph; and after the input. Then the records of the lookups that it applies.
pub record Pattern : Type 0 where
  pub backtrack : ℕ → Option Matcher
  pub backtrack_count : ℕ
  pub input : ℕ → Option Matcher
  pub input_count : ℕ
  pub lookahead : ℕ → Option Matcher
  pub lookahead_count : ℕ
  pub record_count : ℕ
  pub records : List ℕ

-- what a rule that was read asks
abbrev pub pattern_of : Rule → Pattern
pattern_of rule = record {
  backtrack = sequence_matcher rule.backtrack;
  backtrack_count = rule.backtrack.count;
  input = sequence_matcher rule.input;
  input_count = rule.input.count;
  lookahead = sequence_matcher rule.lookahead;
  lookahead_count = rule.lookahead.count;
  record_count = rule.record_count;
  records = rule.records.now;
}

-- what is asked of no glyphs
abbrev pub nothing : ℕ → Option Matcher
nothing = matcher_by Glyphs []

-- what is asked of glyphs each of which has a coverage of its own
abbrev pub covered_by : List Coverage → ℕ → Option Matcher
covered_by coverages k = option_map Covered (slice_get coverages k)

-- a rule without context, whose input has so many glyphs with the first
abbrev pub plain_of : MatchFunction → List ℕ → ℕ → ℕ → Pattern
plain_of match_function table count records = record {
  backtrack = nothing;
  backtrack_count = 0;
  input = matcher_by match_function (drop 4 table);
  input_count = count - 1;
  lookahead = nothing;
  lookahead_count = 0;
  record_count = records;
  records = drop (4 + 2 * (count - 1)) table;
}

-- the rule without context in these bytes: how many glyphs the input has, how many records there are, and what is asked from the second
-- glyph on
abbrev pub plain_pattern : MatchFunction → List ℕ → Option Pattern
plain_pattern match_function table =
    option_and_then (λ count. option_map (plain_of match_function table count) (number_16 table 2)) (number_16 table 0)

-- a rule with so many glyphs before the cursor, in its input and after it
abbrev pub chained_of : MatchFunctions → List ℕ → ℕ → ℕ → ℕ → ℕ → Pattern
chained_of match_functions table backtrack input lookahead records = record {
  backtrack = matcher_by match_functions.backtrack (drop 2 table);
  backtrack_count = backtrack;
  input = matcher_by match_functions.input (drop (2 + 2 * backtrack + 2) table);
  input_count = input - 1;
  lookahead = matcher_by match_functions.lookahead (drop (2 + 2 * backtrack + 2 + 2 * (input - 1) + 2) table);
  lookahead_count = lookahead;
  record_count = records;
  records = drop (2 + 2 * backtrack + 2 + 2 * (input - 1) + 2 + 2 * lookahead + 2) table;
}

-- the rule with context in these bytes: lists of what is asked before the cursor, in the input from its second glyph on and after the
-- input, and of records, each with its count before it
abbrev pub chained_pattern : MatchFunctions → List ℕ → Option Pattern
chained_pattern match_functions table =
    option_and_then
    (λ backtrack. option_and_then
    (λ input. option_and_then
    (λ lookahead. option_map (chained_of match_functions table backtrack input lookahead)
    (number_16 table (2 + 2 * backtrack + 2 + 2 * (input - 1) + 2 + 2 * lookahead)))
    (number_16 table (2 + 2 * backtrack + 2 + 2 * (input - 1))))
    (number_16 table (2 + 2 * backtrack)))
    (number_16 table 0)

-- the rule in these bytes
abbrev pub rule_pattern : Bool → MatchFunctions → List ℕ → Option Pattern
rule_pattern is_chained match_functions table =
    if is_chained then chained_pattern match_functions table else plain_pattern match_functions.input table

-- a rule by coverages without context, whose input has so many glyphs with the first
abbrev pub plain_covered_of : List Coverage → List ℕ → ℕ → ℕ → Pattern
plain_covered_of coverages table count records = record {
  backtrack = nothing;
  backtrack_count = 0;
  input = covered_by (drop 1 coverages);
  input_count = count - 1;
  lookahead = nothing;
  lookahead_count = 0;
  record_count = records;
  records = drop (6 + 2 * count) table;
}

-- the rule of a context by coverages without context around it
abbrev pub plain_covered_pattern : List Coverage → List ℕ → Option Pattern
plain_covered_pattern coverages table =
    option_and_then (λ count. option_map (plain_covered_of coverages table count) (number_16 table 4)) (number_16 table 2)

-- a rule by coverages with so many glyphs before the cursor, in its input and after it; the coverages stand in this order
abbrev pub chained_covered_of : List Coverage → List ℕ → ℕ → ℕ → ℕ → ℕ → Pattern
chained_covered_of coverages table backtrack input lookahead records = record {
  backtrack = covered_by (drop 0 coverages);
  backtrack_count = backtrack;
  input = covered_by (drop (backtrack + 1) coverages);
  input_count = input - 1;
  lookahead = covered_by (drop (backtrack + input) coverages);
  lookahead_count = lookahead;
  record_count = records;
  records = drop (4 + 2 * backtrack + 2 + 2 * input + 2 + 2 * lookahead + 2) table;
}

-- the rule of a chained context by coverages
abbrev pub chained_covered_pattern : List Coverage → List ℕ → Option Pattern
chained_covered_pattern coverages table =
    option_and_then
    (λ backtrack. option_and_then
    (λ input. option_and_then
    (λ lookahead. option_map (chained_covered_of coverages table backtrack input lookahead)
    (number_16 table (4 + 2 * backtrack + 2 + 2 * input + 2 + 2 * lookahead)))
    (number_16 table (4 + 2 * backtrack + 2 + 2 * input)))
    (number_16 table (4 + 2 * backtrack)))
    (number_16 table 2)

-- the rule of a context by coverages
abbrev pub covered_pattern : Bool → List Coverage → List ℕ → Option Pattern
covered_pattern is_chained coverages table =
    if is_chained then chained_covered_pattern coverages table else plain_covered_pattern coverages table

-- whether all that a rule asks for stands around the cursor
unfoldable pub pattern_fits : ApplyContext → Pattern → Bool
pattern_fits ctx p =
    is_some (option_and_then (λ end. lookahead_end ctx p.lookahead end p.lookahead_count) (match_end ctx p.input p.input_count))
    && is_some (backtrack_start ctx p.backtrack p.backtrack_count)

-- a rule fits at the cursor: where its input ends, the places of its glyphs, how far it looks ahead and after, and the records that it
-- applies
pub record IsFitOf (ctx : ApplyContext) (p : Pattern) (places : List ℕ) (fit : Fit) : Type 0 where
  pub input : match_end ctx p.input p.input_count ≡ Some fit.end
  pub input_places : places ≡ match_places ctx p.input p.input_count
  pub lookahead : lookahead_end ctx p.lookahead fit.end p.lookahead_count ≡ Some fit.to
  pub backtrack : backtrack_start ctx p.backtrack p.backtrack_count ≡ Some fit.from
  pub record_count : fit.record_count ≡ p.record_count
  pub records : fit.records.now ≡ p.records

-- a rule, if there is one, fits at the cursor
abbrev pub IsFitBy : ApplyContext → Option Pattern → List ℕ → Fit → Type 0
IsFitBy ctx None places fit = IsTrue false
IsFitBy ctx (Some p) places fit = IsFitOf ctx p places fit

-- whether a rule, if there is one, fits
abbrev pub rule_fits : ApplyContext → Option Pattern → Bool
rule_fits ctx None = false
rule_fits ctx (Some p) = pattern_fits ctx p

-- a rule, if there is one and it fits
abbrev pub fitting : ApplyContext → Option Pattern → Option Pattern
fitting ctx rule = if rule_fits ctx rule then rule else None
