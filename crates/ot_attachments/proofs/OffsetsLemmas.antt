-- Attached glyphs, and the advances that lie between: those are no other once glyphs are moved.
use Rattle.std.proofs.Common.{◌≡◌, ℕ, ℤ, zero, suc, pos, ◌+◌, ◌<◌, ◌≤◌, Bool, true, List, Option, Some, length, refl, ap, sym, subst}
use Rattle.std.proofs.Common.{[], ◌∷◌, ◌^◌, ◌%◌, ◌-◌, false, if◌then◌else◌, ◌∙◌, arith, to_z, of_z}
use Rattle.std.proofs.lemmas.Int.{of_z-to_z}
use Rattle.std.proofs.Math.Seq.{map-set_same}
use Rattle.std.specs.Prelude.{nat_lt, slice_index_or}
use Rattle.std.specs.Int.{w32, int_wrapping_add}
use Rattle.std.specs.Option.{option_map_or}
use Rattle.std.specs.Ordering.{int_eq}
use Rattle.rb_common.specs.Direction.{is_horizontal}
use Rattle.rb_common.specs.declared.direction.Direction.{Direction}
use Rattle.std.proofs.lemmas.Bool.{cond_both, cond-true, cond-false}
use Rattle.rb_glyph.specs.declared.position.GlyphPosition.{GlyphPosition}
use Rattle.shaping_buffer.specs.Positions.{zero_position}
use Rattle.ot_lookups.specs.LookupProps.{share}
use Rattle.ot_attachments.specs.Chains.{chain_of, kind_of, with_chain, place_behind, position_at}
use Rattle.ot_attachments.specs.Offsets.{across, down, hung, joined, moved_to_parent, parent_of, propagated, propagated_before, sum_between, unchained, way}
use Rattle.ot_attachments.specs.Placing.{changed_at}
use Rattle.ot_attachments.specs.Spans.{IsSummed}
use Rattle.ot_attachments.specs.declared.finishing.Span.{Span}

-- glyphs that are changed in nothing by which they advance
pub across-changed_at : (f : GlyphPosition → GlyphPosition) (place : ℕ) (ps : List GlyphPosition)
    → ((p : GlyphPosition) → (f p).x_advance ≡ p.x_advance) → across (changed_at f place ps) ≡ across ps
unfolding changed_at
across-changed_at f place ps same =
    cond_both (nat_lt place (length ps)) _ _ (λ (l : List GlyphPosition). across l ≡ across ps)
    (λ _. map-set_same (λ p. p.x_advance) ps place _ zero_position (same _)) (λ _. refl)

pub down-changed_at : (f : GlyphPosition → GlyphPosition) (place : ℕ) (ps : List GlyphPosition)
    → ((p : GlyphPosition) → (f p).y_advance ≡ p.y_advance) → down (changed_at f place ps) ≡ down ps
unfolding changed_at
down-changed_at f place ps same =
    cond_both (nat_lt place (length ps)) _ _ (λ (l : List GlyphPosition). down l ≡ down ps)
    (λ _. map-set_same (λ p. p.y_advance) ps place _ zero_position (same _)) (λ _. refl)

pub summed_changed_at : (f : GlyphPosition → GlyphPosition) (place : ℕ) (ps qs : List GlyphPosition) (span : Span)
    → ((p : GlyphPosition) → (f p).x_advance ≡ p.x_advance) → ((p : GlyphPosition) → (f p).y_advance ≡ p.y_advance)
    → qs ≡ changed_at f place ps → IsSummed ps span → IsSummed qs span
summed_changed_at f place ps qs span same_x same_y is s =
    subst (λ l. IsSummed l span) (sym is) (record {
      rises = s.rises;
      x = s.x ∙ ap (sum_between span.from span.to) (sym (across-changed_at f place ps same_x));
      y = s.y ∙ ap (sum_between span.from span.to) (sym (down-changed_at f place ps same_y));
    })

-- sums of nothing, and of one glyph more
pub sum_between_none : (from to : ℕ) (advances : List ℤ) → to ≤ from → sum_between from to advances ≡ pos 0
sum_between_none from zero advances not_behind = refl
sum_between_none from (suc k) advances not_behind =
    let before : nat_lt k from ≡ true = grind arith in cond-true _ _ _ before

sum_between-suc : (from k : ℕ) (advances : List ℤ) → from ≤ k
    → sum_between from (suc k) advances ≡ int_wrapping_add w32 (sum_between from k advances) (slice_index_or advances k (pos 0))
sum_between-suc from k advances behind = let not_before : nat_lt k from ≡ false = grind arith in cond-false _ _ _ not_before

slice_index_or-across : (ps : List GlyphPosition) (k : ℕ) → slice_index_or (across ps) k (pos 0) ≡ (slice_index_or ps k zero_position).x_advance
slice_index_or-across [] k = refl
slice_index_or-across (p ∷ ps) zero = refl
slice_index_or-across (p ∷ ps) (suc k) = slice_index_or-across ps k

slice_index_or-down : (ps : List GlyphPosition) (k : ℕ) → slice_index_or (down ps) k (pos 0) ≡ (slice_index_or ps k zero_position).y_advance
slice_index_or-down [] k = refl
slice_index_or-down (p ∷ ps) zero = refl
slice_index_or-down (p ∷ ps) (suc k) = slice_index_or-down ps k

-- a sum of 32 bits, as a program has it
to_z-added : (bits : ℕ) (sum advance : ℤ) → bits < 2 ^ 32 → to_z w32 bits ≡ sum
    → to_z w32 ((bits + of_z w32 advance) % 2 ^ 32) ≡ int_wrapping_add w32 sum advance
to_z-added bits sum advance fits is =
    ap (λ b. to_z w32 ((b + of_z w32 advance) % 2 ^ 32)) (sym (of_z-to_z w32 bits fits)) ∙ ap (λ s. int_wrapping_add w32 s advance) is

pub to_z-across : (from k bits : ℕ) (ps : List GlyphPosition) → from ≤ k → bits < 2 ^ 32 → to_z w32 bits ≡ sum_between from k (across ps)
    → to_z w32 ((bits + of_z w32 (slice_index_or ps k zero_position).x_advance) % 2 ^ 32) ≡ sum_between from (k + 1) (across ps)
to_z-across from k bits ps behind fits is =
    let one_more : suc k ≡ k + 1 = omega arith in
    to_z-added bits (sum_between from k (across ps)) (slice_index_or ps k zero_position).x_advance fits is
    ∙ ap (int_wrapping_add w32 (sum_between from k (across ps))) (sym (slice_index_or-across ps k))
    ∙ sym (sum_between-suc from k (across ps) behind) ∙ ap (λ n. sum_between from n (across ps)) one_more

pub to_z-down : (from k bits : ℕ) (ps : List GlyphPosition) → from ≤ k → bits < 2 ^ 32 → to_z w32 bits ≡ sum_between from k (down ps)
    → to_z w32 ((bits + of_z w32 (slice_index_or ps k zero_position).y_advance) % 2 ^ 32) ≡ sum_between from (k + 1) (down ps)
to_z-down from k bits ps behind fits is =
    let one_more : suc k ≡ k + 1 = omega arith in
    to_z-added bits (sum_between from k (down ps)) (slice_index_or ps k zero_position).y_advance fits is
    ∙ ap (int_wrapping_add w32 (sum_between from k (down ps))) (sym (slice_index_or-down ps k))
    ∙ sym (sum_between-suc from k (down ps) behind) ∙ ap (λ n. sum_between from n (down ps)) one_more

-- ---- the glyph at a place, with its parent

pub propagated-last : (d : Direction) (levels place : ℕ) (ps : List GlyphPosition) → levels ≡ 0
    → propagated d levels place ps ≡ unchained place ps
propagated-last d levels place ps last = ap (λ n. propagated d n place ps) last

propagated-attached : (d : Direction) (levels place parent : ℕ) (ps qs : List GlyphPosition) → 0 < levels
    → parent_of place ps ≡ Some parent → qs ≡ propagated d (levels - 1) parent (unchained place ps)
    → propagated d levels place ps ≡ moved_to_parent d (kind_of (position_at ps place)) place parent qs
propagated-attached d levels place parent ps qs some attached is =
    let one_more : levels ≡ suc (levels - 1) = omega (arith, some) in
    ap (λ n. propagated d n place ps) one_more
    ∙ ap (λ (o : Option ℕ). option_map_or (λ parent. moved_to_parent d (kind_of (position_at ps place)) place parent
    (propagated d (levels - 1) parent (unchained place ps))) o (unchained place ps)) attached
    ∙ ap (moved_to_parent d (kind_of (position_at ps place)) place parent) (sym is)

pub propagated-joined : (d : Direction) (levels place parent : ℕ) (ps qs : List GlyphPosition) → 0 < levels
    → parent_of place ps ≡ Some parent → qs ≡ propagated d (levels - 1) parent (unchained place ps)
    → share (kind_of (position_at ps place)) 2 ≡ true
    → propagated d levels place ps ≡ changed_at (joined d (position_at qs parent)) place qs
unfolding moved_to_parent
propagated-joined d levels place parent ps qs some attached is cursive =
    propagated-attached d levels place parent ps qs some attached is
    ∙ ap (λ (b : Bool). changed_at (λ p. if b then joined d (position_at qs parent) p
    else hung d (position_at qs parent) (way d parent place (across qs)) (way d parent place (down qs)) p) place qs) cursive

pub propagated-hung : (d : Direction) (levels place parent : ℕ) (ps qs : List GlyphPosition) → 0 < levels
    → parent_of place ps ≡ Some parent → qs ≡ propagated d (levels - 1) parent (unchained place ps)
    → share (kind_of (position_at ps place)) 2 ≡ false
    → propagated d levels place ps
    ≡ changed_at (hung d (position_at qs parent) (way d parent place (across qs)) (way d parent place (down qs))) place qs
unfolding moved_to_parent
propagated-hung d levels place parent ps qs some attached is mark =
    propagated-attached d levels place parent ps qs some attached is
    ∙ ap (λ (b : Bool). changed_at (λ p. if b then joined d (position_at qs parent) p
    else hung d (position_at qs parent) (way d parent place (across qs)) (way d parent place (down qs)) p) place qs) mark

pub parent_of-within : (place parent : ℕ) (ps : List GlyphPosition) → parent_of place ps ≡ Some parent → parent < length ps
unfolding parent_of place_behind
parent_of-within place parent ps is = grind arith

-- ---- moved glyphs advance as before

pub summed_unchained : (place : ℕ) (ps qs : List GlyphPosition) (span : Span) → qs ≡ unchained place ps
    → IsSummed ps span → IsSummed qs span
unfolding unchained
summed_unchained place ps qs span is s =
    subst (λ l. IsSummed l span) (sym is)
    (cond_both (int_eq (chain_of (position_at ps place)) (pos 0)) ps (changed_at (with_chain (pos 0)) place ps) (λ l. IsSummed l span)
    (λ _. s) (λ _. summed_changed_at (with_chain (pos 0)) place ps _ span (λ p. refl) (λ p. refl) refl s))

pub summed_joined : (d : Direction) (at : GlyphPosition) (place : ℕ) (ps qs : List GlyphPosition) (span : Span)
    → qs ≡ changed_at (joined d at) place ps → IsSummed ps span → IsSummed qs span
unfolding joined
summed_joined d at place ps qs span is s =
    summed_changed_at (joined d at) place ps qs span
    (λ p. cond_both (is_horizontal d) _ _ (λ (q : GlyphPosition). q.x_advance ≡ p.x_advance) (λ _. refl) (λ _. refl))
    (λ p. cond_both (is_horizontal d) _ _ (λ (q : GlyphPosition). q.y_advance ≡ p.y_advance) (λ _. refl) (λ _. refl)) is s

pub summed_hung : (d : Direction) (at : GlyphPosition) (x y : ℤ) (place : ℕ) (ps qs : List GlyphPosition) (span : Span)
    → qs ≡ changed_at (hung d at x y) place ps → IsSummed ps span → IsSummed qs span
unfolding hung
summed_hung d at x y place ps qs span is s =
    summed_changed_at (hung d at x y) place ps qs span (λ p. refl) (λ p. refl) is s

-- all glyphs before the next place
pub propagated_before-suc : (d : Direction) (place : ℕ) (ps qs : List GlyphPosition)
    → qs ≡ propagated d 64 place (propagated_before d place ps) → qs ≡ propagated_before d (place + 1) ps
propagated_before-suc d place ps qs is = let one_more : suc place ≡ place + 1 = omega arith in is ∙ ap (λ n. propagated_before d n ps) one_more
