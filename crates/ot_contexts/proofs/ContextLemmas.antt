-- Where the glyph that a context asks for does not stand after the cursor.
use Rattle.std.proofs.Common.{◌≡◌, ℕ, ◌<◌, true, false, if◌then◌else◌, List, length, Option, Some, None, refl, arith, inl, inr}
use Rattle.std.specs.Prelude.{IfSome}
use Rattle.std.proofs.Common.{is_some}
use Rattle.std.proofs.lemmas.Bool.{cases_Bool}
use Rattle.font_tables.specs.declared.coverage.Coverage.{Coverage}
use Rattle.rb_glyph.specs.declared.info.hb_glyph_info_t.{hb_glyph_info_t}
use Rattle.ot_contexts.specs.Context.{class_meanings, context_rule, covered_rule, next_walk, numbered_set, same_match_function}
use Rattle.ot_lookups.specs.SubtableKinds.{as_context, is_chained}
use Rattle.ot_lookups.specs.declared.subtable_kind.ContextFormat.TheVariants as format
use Rattle.glyph_digests.specs.Digest.{HasAll, may_have}
use Rattle.ot_layout.specs.SkippingIterator.{class_in, may_ignore, next_found, skip_of, place_of}
use Rattle.glyph_digests.specs.Covered.{covered_index}
use Rattle.ot_lookups.specs.LookupProps.{glyph_at}
use Rattle.ot_contexts.specs.Pattern.{IsFitBy, Pattern, fitting, rule_fits}
use Rattle.ot_contexts.specs.RuleSet.{rule_of_set}
use Rattle.ot_contexts.specs.declared.context.Fit.{Fit}
use Rattle.glyph_digests.specs.declared.digest.Digest.{Digest}
use Rattle.ot_contexts.specs.declared.rule.MatchFunction.TheVariants.{Glyphs}
use Rattle.ot_layout.specs.declared.search.ApplyContext.{ApplyContext}
use Rattle.ot_lookups.specs.declared.subtable.NextAsked.{NextAsked}
use Rattle.ot_lookups.specs.declared.subtable.Subtable.{Subtable}
use Rattle.ot_layout.specs.declared.skipping_iterator.SkippingIterator.{SkippingIterator}
use Rattle.ot_layout.specs.declared.skipping_iterator.Skip.TheVariants.{No}
use Rattle.ot_layout.specs.declared.matcher.Matcher.{Matcher}
use Rattle.ot_layout.specs.declared.matcher.Matcher.TheVariants.{Covered}
use Rattle.ot_contexts.proofs.RuleSetLemmas.{fitting-here}
use Rattle.ot_contexts.proofs.NeighbourLemmas.{counts-no, matches-other, place_of-beside, place_of-last}
use Rattle.ot_layout.specs.ApplyContext.{context_iterator}

-- a glyph that a digest does not have is not in the set
pub not_covered : (d : Digest) (c : Coverage) (g : ℕ) → HasAll (λ g. is_some (covered_index c.table.now g) ≡ true) d
    → may_have d g ≡ false → is_some (covered_index c.table.now g) ≡ false
not_covered d c g all none =
    elim (cases_Bool (is_some (covered_index c.table.now g))) [
      | inl there ↦ let so = all g there in cc
      | inr missing ↦ missing
    ]

-- the glyph after the cursor counts, and a digest does not have it
pub place_of-missed_other : (w : SkippingIterator) (d : Digest) (c : Coverage) (gs : List hb_glyph_info_t) → 1 < length gs
    → HasAll (λ g. is_some (covered_index c.table.now g) ≡ true) d → may_have d (glyph_at gs 1).glyph_id ≡ false
    → skip_of w (glyph_at gs 1) ≡ No → place_of (next_found w (Covered c) gs 0) ≡ None
place_of-missed_other w d c gs more all none stays =
    place_of-beside w (Covered c) gs 0 more (counts-no w _ stays)
    (matches-other w (Covered c) _ refl (not_covered d c (glyph_at gs 1).glyph_id all none))

-- a glyph that counts does so in each syllable
pub skip_of_input : (next : NextAsked) (s : ApplyContext) (g : hb_glyph_info_t) → next.is_input ≡ true → skip_of s.iterator g ≡ No
    → skip_of (next_walk next s) g ≡ No
unfolding may_ignore
skip_of_input next s g is counts = rw is counts

pub skip_of_around : (s : ApplyContext) (g : hb_glyph_info_t) → skip_of s.context g ≡ No → skip_of (context_iterator s true) g ≡ No
unfolding may_ignore
skip_of_around s g counts = counts

pub skip_of_ahead : (next : NextAsked) (s : ApplyContext) (g : hb_glyph_info_t) → next.is_input ≡ false
    → skip_of (context_iterator s true) g ≡ No → skip_of (next_walk next s) g ≡ No
skip_of_ahead next s g is counts = rw is counts

pub ruleset counting = (skip_of_input, skip_of_ahead)

-- no glyph stands after the cursor
pub place_of-missed_end : (w : SkippingIterator) (x : Matcher) (gs : List hb_glyph_info_t) → length gs ≡ 1
    → place_of (next_found w x gs 0) ≡ None
place_of-missed_end w x gs one = place_of-last w x gs 0 (omega (arith, one))

pub ruleset missed = (place_of-missed_other, place_of-missed_end)

-- the rules of a context, by its format
pub context_rule-glyphs : (cs : List Coverage) (t : Subtable) (i : ℕ) (s : ApplyContext) → as_context t.kind ≡ Some format.Glyphs
    → context_rule cs t i s
    ≡ rule_of_set s (is_chained t.kind) (same_match_function Glyphs) (numbered_set t.table.now 4 i)
unfolding context_rule
context_rule-glyphs cs t i s is = rw is refl

pub context_rule-classes : (cs : List Coverage) (t : Subtable) (i : ℕ) (s : ApplyContext) → as_context t.kind ≡ Some format.Classes
    → context_rule cs t i s ≡ rule_of_set s (is_chained t.kind) (class_meanings t)
    (numbered_set t.table.now (if is_chained t.kind then 10 else 6)
    (class_in t.classes.table.now (glyph_at s.input.now 0).glyph_id))
unfolding context_rule
context_rule-classes cs t i s is = rw is refl

pub context_rule-covered : (cs : List Coverage) (t : Subtable) (i : ℕ) (s : ApplyContext) → as_context t.kind ≡ Some format.Coverages
    → context_rule cs t i s ≡ fitting s (covered_rule cs t)
unfolding context_rule
context_rule-covered cs t i s is = rw is refl

pub context_rule-none : (cs : List Coverage) (t : Subtable) (i : ℕ) (s : ApplyContext) → as_context t.kind ≡ None
    → context_rule cs t i s ≡ None
unfolding context_rule
context_rule-none cs t i s is = rw is refl

-- a rule that fits is one that fits
fitting_by : (s : ApplyContext) (o : Option Pattern) (places : List ℕ) (fit : Fit) → IsFitBy s o places fit
    → IsFitBy s (fitting s o) places fit
fitting_by s None places fit is = cc
fitting_by s (Some p) places fit is = fitting-here s p places fit is

pub fits_by : (s : ApplyContext) (o : Option Pattern) (places : List ℕ) (fit : Option Fit) → IfSome fit (IsFitBy s o places)
    → IfSome fit (IsFitBy s (fitting s o) places)
fits_by s o places None is = tt
fits_by s o places (Some fit) is = fitting_by s o places fit is

pub is_some-fitting : (s : ApplyContext) (o : Option Pattern) → is_some (fitting s o) ≡ rule_fits s o
is_some-fitting s None = refl
is_some-fitting s (Some p) =
    elim (cases_Bool (rule_fits s (Some p))) [
      | inl fits ↦ rw fits refl
      | inr misses ↦ rw misses refl
    ]

pub ruleset formats = (context_rule-glyphs, context_rule-classes, context_rule-none)
