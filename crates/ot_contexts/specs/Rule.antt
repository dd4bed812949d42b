-- What rules ask of glyphs that follow one another, and where these stand.
use Rattle.std.specs.Prelude.{◌≡◌, ℕ, ◌+◌, ◌*◌, ◌<◌, List, Option, Some, option_map, slice_get, slice_index}
use Rattle.rb_glyph.specs.declared.info.hb_glyph_info_t.{hb_glyph_info_t}
use Rattle.font_tables.specs.Bytes.{number_16}
use Rattle.ot_layout.specs.SkippingIterator.{next_found}
use Rattle.ot_contexts.specs.declared.rule.MatchFunction.{MatchFunction}
use Rattle.ot_contexts.specs.declared.rule.MatchFunction.TheVariants.{Glyphs, Classes, Coverages}
use Rattle.ot_contexts.specs.declared.rule.Sequence.{Sequence}
use Rattle.ot_layout.specs.declared.skipping_iterator.SkippingIterator.{SkippingIterator}
use Rattle.ot_layout.specs.declared.skipping_iterator.Found.TheVariants.{At}
use Rattle.ot_layout.specs.declared.matcher.Matcher.{Matcher}
use Rattle.ot_layout.specs.declared.matcher.Matcher.TheVariants.{Glyph, Class, Covered}

-- what is asked of the glyph of this number: the glyph or the class with a number of the table, or a coverage
abbrev pub matcher_by : MatchFunction → List ℕ → ℕ → Option Matcher
matcher_by Glyphs numbers k = option_map Glyph (number_16 numbers (k * 2))
matcher_by (Classes classes) numbers k = option_map (Class classes) (number_16 numbers (k * 2))
matcher_by (Coverages coverages) numbers k = option_map Covered (slice_get coverages.now k)

-- what a part of a rule asks of the glyph of this number
abbrev pub sequence_matcher : Sequence → ℕ → Option Matcher
sequence_matcher part k = matcher_by part.match_function part.numbers.now k

-- the places are those of so many glyphs after a first one: each is the next that counts, and is what is asked for
abbrev pub AreMatchPositions : SkippingIterator → (ℕ → Option Matcher) → List hb_glyph_info_t → ℕ → List ℕ → Type 0
AreMatchPositions iterator asked glyphs count places =
    (k : ℕ) → k < count → (matcher : Matcher) → asked k ≡ Some matcher
    → next_found iterator matcher glyphs (slice_index places k) ≡ At (slice_index places (k + 1))
