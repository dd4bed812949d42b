-- Pairs: the next glyph, where it stands after the first, and kerning.
use Rattle.std.proofs.Common.{◌≡◌, ℕ, ℤ, ◌+◌, ◌<◌, Bool, true, false, not, ◌||◌, cond, List, length, nat_eq, arith, refl, ap, ◌∙◌, pos}
use Rattle.std.specs.Prelude.{Some}
use Rattle.std.proofs.lemmas.Bool.{cond_both, lt-ltb}
use Rattle.rb_glyph.specs.declared.info.hb_glyph_info_t.{hb_glyph_info_t}
use Rattle.ot_lookups.specs.LookupProps.{glyph_at}
use Rattle.ot_layout.specs.SkippingIterator.{matches, next_found, passes}
use Rattle.ot_layout.specs.declared.skipping_iterator.SkippingIterator.{SkippingIterator}
use Rattle.ot_layout.specs.declared.skipping_iterator.Found.TheVariants.{At}
use Rattle.ot_layout.specs.declared.matcher.Matcher.TheVariants.{Shown}
use Rattle.ot_layout.proofs.SkippingIteratorLemmas.{first_kept-here}
use Rattle.std.proofs.lemmas.Bool.Decides.{nat_tests}
use Rattle.std.specs.Ordering.{int_eq}
use Rattle.rb_common.specs.Direction.{is_horizontal}
use Rattle.rb_glyph.specs.declared.position.GlyphPosition.{GlyphPosition}
use Rattle.shaping_buffer.specs.State.{State}
use Rattle.shaping_buffer.specs.Lending.{with_positions}
use Rattle.ot_gpos_tables.specs.Pairs.{is_kerning, kerned, number}
use Rattle.ot_gpos_tables.specs.Values.{across, has_effect, moved}
use Rattle.ot_gpos_tables.specs.declared.pairs.PairValues.{PairValues}
use Rattle.ot_attachments.specs.Flags.{break_marked}
use Rattle.ot_gpos.specs.PairAdjustments.{adjusted, pair_base, pair_moved, table_of, unmoved, uses_second}
use Rattle.ot_attachments.specs.Places.{behind}
use Rattle.ot_attachments.specs.Placing.{changed_at, on_positions}
use Rattle.ot_attachments.proofs.PositionsLemmas.{length_changed_at, with_positions_on}
use Rattle.ot_gpos.specs.Visit.{Visit}

pub next_is_behind : (w : SkippingIterator) (gs : List hb_glyph_info_t) (i : ℕ) → i + 1 < length gs
    → passes w Shown (glyph_at gs (i + 1)) ≡ false → matches w Shown (glyph_at gs (i + 1)) ≡ true
    → At (i + 1) ≡ next_found w Shown gs i
unfolding next_found
next_is_behind w gs i within kept fits =
    rw (first_kept-here (passes w Shown) gs (i + 1) within kept, lt-ltb (i + 1) (length gs) within, fits) refl

-- ---- kerning: pairs of which the first glyph has another advance, and nothing else is changed

pub number_kerning_first : (table : List ℕ) → is_kerning table ≡ true → number table 4 ≡ 4
number_kerning_first table kerns = grind (arith, nat_tests)

pub number_kerning_second : (table : List ℕ) → is_kerning table ≡ true → number table 6 ≡ 0
number_kerning_second table kerns = grind (arith, nat_tests)

uses_no_second : (visit : Visit) → is_kerning (table_of visit) ≡ true → uses_second visit ≡ false
uses_no_second visit kerns = ap (λ n. not (nat_eq n 0)) (number_kerning_second (table_of visit) kerns)

cond_effect : {X : Type 0} (e : Bool) (A B : X) → cond ((not e || false) || false) A B ≡ cond e B A
cond_effect true A B = refl
cond_effect false A B = refl

pub adjusted_kerned : (visit : Visit) (second : ℕ) (advance : ℤ) (s : State) → is_horizontal s.direction ≡ true
    → is_kerning (table_of visit) ≡ true
    → adjusted visit second (kerned advance) s
    ≡ cond (int_eq advance (pos 0)) (unmoved visit (behind second) s)
    (break_marked visit.place (behind second) (on_positions (pair_moved visit true (kerned advance) second) s))
unfolding adjusted has_effect
adjusted_kerned visit second advance s line kerns =
    rw (uses_no_second visit kerns, line) (cond_effect (int_eq advance (pos 0)) _ _)

pub pair_moved_kerned : (visit : Visit) (second : ℕ) (advance : ℤ) (ps : List GlyphPosition)
    → is_kerning (table_of visit) ≡ true
    → pair_moved visit true (kerned advance) second ps
    ≡ changed_at (moved (pair_base visit) visit.instance true (across advance)) visit.place ps
unfolding pair_moved
pair_moved_kerned visit second advance ps kerns = rw (uses_no_second visit kerns) refl

-- ---- what a pair does to positions that are written through a reference

length-pair_moved : (visit : Visit) (h : Bool) (v : PairValues) (second : ℕ) (ps : List GlyphPosition)
    → length (pair_moved visit h v second ps) ≡ length ps
unfolding pair_moved
length-pair_moved visit h v second ps =
    let first = changed_at (moved (pair_base visit) visit.instance h v.first) visit.place ps in
    let both = changed_at (moved (pair_base visit) visit.instance h v.second) second first in
    let same : length first ≡ length ps = length_changed_at _ visit.place ps in
    cond_both (uses_second visit) both first (λ (l : List GlyphPosition). length l ≡ length ps)
    (λ _. length_changed_at _ second first ∙ same) (λ _. same)

pub with_positions_paired : (visit : Visit) (h : Bool) (v : PairValues) (second : ℕ) (s : State) (ps ws : List GlyphPosition)
    → Some ps ≡ s.positions → ws ≡ pair_moved visit h v second ps
    → with_positions s ws ≡ on_positions (pair_moved visit h v second) s
with_positions_paired visit h v second s ps ws are is =
    with_positions_on (pair_moved visit h v second) s ps ws are is (length-pair_moved visit h v second ps)
