-- What a rule asks of the next glyphs after the cursor, by its bytes, and what it may ask for where a glyph stands.
use Rattle.std.specs.Prelude.{ℕ, ◌≡◌, ◌≢◌, ◌+◌, ◌-◌, ◌*◌, ◌<◌, ◌≤◌, ◌&&◌, Bool, true, false, not, List, Option, None, Some, IfSome, nat_eq, nat_lt, option_and_then, option_map, if◌then◌else◌}
use Rattle.font_tables.specs.Bytes.{number_16}
use Rattle.rb_glyph.specs.declared.info.hb_glyph_info_t.{hb_glyph_info_t}
use Rattle.ot_contexts.specs.Match.{next_place}
use Rattle.ot_contexts.specs.Neighbours.{may_fit}
use Rattle.ot_contexts.specs.Pattern.{Pattern}
use Rattle.ot_contexts.specs.Rule.{matcher_by}
use Rattle.ot_contexts.specs.RuleSet.{is_asked}
use Rattle.ot_contexts.specs.declared.asked.Asked.{Asked}
use Rattle.ot_contexts.specs.declared.asked.Asked.TheVariants.{Input, Lookahead}
use Rattle.ot_contexts.specs.declared.neighbours.Neighbours.{Neighbours}
use Rattle.ot_contexts.specs.declared.rule.MatchFunction.{MatchFunction}
use Rattle.ot_contexts.specs.declared.rule.MatchFunctions.{MatchFunctions}
use Rattle.ot_layout.specs.declared.search.ApplyContext.{ApplyContext}
use Rattle.ot_contexts.specs.declared.told.Beside.{Beside}
use Rattle.ot_contexts.specs.declared.told.Numbers.{Numbers}
use Rattle.ot_contexts.specs.declared.told.Told.{Told}
use Rattle.ot_layout.specs.declared.skipping_iterator.SkippingIterator.{SkippingIterator}
use Rattle.ot_layout.specs.declared.matcher.Matcher.{Matcher}
use Rattle.ot_layout.specs.ApplyContext.{context_iterator, input_iterator}

-- the number that a rule without context asks for after the cursor, of an input that may match
abbrev pub plain_asked : List ℕ → ℕ → Option Asked
plain_asked table n =
    option_and_then (λ count. if nat_lt n (count - 1) && nat_lt (count - 1) 64 then option_map Input (number_16 table (4 + 2 * n)) else None)
    (number_16 table 0)

-- the number that a rule asks for after its input, where the count of these stands at a place
abbrev pub asked_lookahead : List ℕ → ℕ → ℕ → Option Asked
asked_lookahead table at n =
    option_and_then (λ count. if nat_lt n count then option_map Lookahead (number_16 table (at + 2 + 2 * n)) else None) (number_16 table at)

-- that of a rule with so many glyphs before the cursor and in its input
abbrev pub asked_around : List ℕ → ℕ → ℕ → ℕ → Option Asked
asked_around table backtrack input n =
    if nat_lt n (input - 1)
    then if nat_lt (input - 1) 64 then option_map Input (number_16 table (2 + 2 * backtrack + 2 + 2 * n)) else None
    else asked_lookahead table (2 + 2 * backtrack + 2 + 2 * (input - 1)) (n - (input - 1))

-- that of a rule with context
abbrev pub chained_asked : List ℕ → ℕ → Option Asked
chained_asked table n =
    option_and_then (λ backtrack. option_and_then (λ input. asked_around table backtrack input n) (number_16 table (2 + 2 * backtrack)))
    (number_16 table 0)

-- the number that the rule in these bytes asks for at this number after the cursor
abbrev pub asked_at : Bool → List ℕ → ℕ → Option Asked
asked_at is_chained table n = if is_chained then chained_asked table n else plain_asked table n

-- a rule that asks for another number than this of a glyph does not mean it
abbrev pub IsNumberOf : MatchFunction → ℕ → ℕ → Type 0
IsNumberOf match_function glyph number =
    (numbers : List ℕ) → (k asked : ℕ) → number_16 numbers (k * 2) ≡ Some asked → asked ≢ number
    → is_asked (matcher_by match_function numbers k) glyph ≡ false

-- so it is in the input of rules, and after that
abbrev pub AreNumbersOf : MatchFunctions → ℕ → Numbers → Type 0
AreNumbersOf match_functions glyph numbers =
    IsNumberOf match_functions.input glyph numbers.input × IsNumberOf match_functions.lookahead glyph numbers.lookahead

-- whether another number is asked for
abbrev pub is_other : Numbers → Asked → Bool
is_other numbers (Input number) = not (nat_eq number numbers.input)
is_other numbers (Lookahead number) = not (nat_eq number numbers.lookahead)

-- a part of a rule asks for this number of the glyph of a number
pub record AsksFor (match_function : MatchFunction) (matcher : ℕ → Option Matcher) (count n number : ℕ) : Type 0 where
  pub numbers : List ℕ
  pub less : n < count
  pub is : matcher n ≡ matcher_by match_function numbers n
  pub has : number_16 numbers (n * 2) ≡ Some number

-- a rule asks for it at a number after the cursor
abbrev pub Asks : MatchFunctions → Pattern → ℕ → Asked → Type 0
Asks match_functions p n (Input number) = AsksFor match_functions.input p.input p.input_count n number
Asks match_functions p n (Lookahead number) =
    (p.input_count ≤ n) × AsksFor match_functions.lookahead p.lookahead p.lookahead_count (n - p.input_count) number

-- by the glyphs after the cursor no rule may fit that asks for another number at this one
abbrev pub IsApart : Neighbours → MatchFunctions → ℕ → Numbers → Type 0
IsApart neighbours match_functions n numbers =
    (p : Pattern) → (asked : Asked) → Asks match_functions p n asked → is_other numbers asked ≡ true → may_fit neighbours p ≡ false

-- the next two glyphs are these in the numbers of rules
abbrev pub IsTold : Neighbours → MatchFunctions → Told → Type 0
IsTold neighbours match_functions told = IsApart neighbours match_functions 0 told.first × IfSome told.second (IsApart neighbours match_functions 1)

-- whoever asks for another number right after the cursor does not find it
abbrev pub IsBeside : SkippingIterator → List hb_glyph_info_t → MatchFunction → Beside → Type 0
IsBeside iterator glyphs match_function beside =
    (numbers : List ℕ) → (asked : ℕ) → number_16 numbers 0 ≡ Some asked → asked ≢ beside.number
    → next_place iterator (matcher_by match_function numbers 0) glyphs 0 ≡ None

-- so it is in the input of rules
abbrev pub IsInput : ApplyContext → MatchFunctions → Beside → Type 0
IsInput ctx match_functions beside = IsBeside (input_iterator ctx) ctx.input.now match_functions.input beside

-- and after an input of a single glyph
abbrev pub IsLookahead : ApplyContext → MatchFunctions → Beside → Type 0
IsLookahead ctx match_functions beside = IsBeside (context_iterator ctx true) ctx.input.now match_functions.lookahead beside
