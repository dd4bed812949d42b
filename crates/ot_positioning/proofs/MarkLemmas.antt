-- The marks of a text, item by item.
use Rattle.std.proofs.Common.{◌≡◌, ◌<◌, ◌≤◌, ◌+◌, ◌-◌, ℕ, ℤ, suc, Bool, List, [], refl, sym, ap, subst, arith}
use Rattle.std.specs.Prelude.{Option, Some, Result, IfOk, slice_index_or, unwrap_or}
use Rattle.std.specs.declared.alloc.AllocError.{AllocError}
use Rattle.rb_glyph.specs.declared.info.hb_glyph_info_t.{hb_glyph_info_t}
use Rattle.rb_glyph.specs.declared.position.GlyphPosition.{GlyphPosition}
use Rattle.shaping_buffer.specs.KeepsClusters.{KeepsClusters}
use Rattle.shaping_buffer.specs.Positions.{zero_position}
use Rattle.shaping_buffer.specs.State.{State}
use Rattle.ot_attachments.specs.Flags.{break_marked}
use Rattle.ot_positions.proofs.WidthsLemmas.{keeps_positions}
use Rattle.ot_positioning.specs.MarkPlacing.{AreDone, ArePlaced, IsBegun, IsBehind, IsDoneAt, IsPlacedAt, IsPutAround, marks_end, position_at}
use Rattle.ot_positioning.specs.declared.mark_placing.Line.{Line}
use Rattle.ot_positioning.specs.declared.mark_placing.Marks.{Marks}

-- ---- what is read of a text

-- the position that is read at a place
pub slice_index_or-position_at : (s : State) (ps : List GlyphPosition) (place : ℕ) → Some ps ≡ s.positions
    → slice_index_or ps place zero_position ≡ position_at place s
slice_index_or-position_at s ps place are = ap (λ (o : Option (List GlyphPosition)). slice_index_or (unwrap_or o []) place zero_position) are

pub begun_at : (may : ℕ → ℤ → Type 0) (line : Line) (g h : hb_glyph_info_t) (p q : GlyphPosition) (r : Result (Option Marks) AllocError)
    → g ≡ h → p ≡ q → IfOk r (IsBegun may line g p) → IfOk r (IsBegun may line h q)
begun_at may line g h p q r same_glyph same_position begun =
    subst (λ (x : hb_glyph_info_t). IfOk r (IsBegun may line x q)) same_glyph
    (subst (λ (x : GlyphPosition). IfOk r (IsBegun may line g x)) same_position begun)

pub behind_at : (adjusts : Bool) (g h : hb_glyph_info_t) (m n : Option Marks) (p q to : GlyphPosition) → g ≡ h → p ≡ q
    → IsBehind adjusts g m p n to → IsBehind adjusts h m q n to
behind_at adjusts g h m n p q to same_glyph same_position behind =
    subst (λ (x : hb_glyph_info_t). IsBehind adjusts x m q n to) same_glyph
    (subst (λ (x : GlyphPosition). IsBehind adjusts g m x n to) same_position behind)

-- ---- the marks of a base

-- one more, and none that is left
pub placed_more : (adjusts : Bool) (place end : ℕ) (old mid new : State) (m n : Option Marks) → place < end
    → IsPlacedAt adjusts place old m mid n → ArePlaced adjusts (end - (place + 1)) (place + 1) mid n new
    → ArePlaced adjusts (end - place) place old m new
unfolding ArePlaced
placed_more adjusts place end old mid new m n less one rest =
    let count : suc (end - (place + 1)) ≡ end - place = omega (arith, less) in
    subst (λ (k : ℕ). ArePlaced adjusts k place old m new) count (record { mid = mid; marks = n; first = one; rest = rest })

pub placed_none : (adjusts : Bool) (place end : ℕ) (s : State) (m : Option Marks) → end ≤ place
    → ArePlaced adjusts (end - place) place s m s
unfolding ArePlaced
placed_none adjusts place end s m all =
    let count : 0 ≡ end - place = omega (arith, all) in
    subst (λ (k : ℕ). ArePlaced adjusts k place s m s) count refl

-- ---- one item after the other

module _ (may : ℕ → ℤ → Type 0) (line : Line) (adjusts : Bool) (place all : ℕ) where
  pub done_more : (old mid new : State) → place < all → IsDoneAt may line adjusts place old mid
      → AreDone may line adjusts (all - (place + 1)) (place + 1) mid new → AreDone may line adjusts (all - place) place old new
  unfolding AreDone
  done_more old mid new less one rest =
      let count : suc (all - (place + 1)) ≡ all - place = omega (arith, less) in
      subst (λ (k : ℕ). AreDone may line adjusts k place old new) count (record { mid = mid; first = one; rest = rest })

  pub done_none : (s : State) → all ≤ place → AreDone may line adjusts (all - place) place s s
  unfolding AreDone
  done_none s past =
      let count : 0 ≡ all - place = omega (arith, past) in
      subst (λ (k : ℕ). AreDone may line adjusts k place s s) count refl

-- an item that has no marks behind it, and one that has some
pub done_without : (may : ℕ → ℤ → Type 0) (line : Line) (adjusts : Bool) (place end : ℕ) (s : State)
    → end ≡ marks_end s.input place → end ≤ place + 1 → IsDoneAt may line adjusts place s s
done_without may line adjusts place end s is few = record {
  none = λ _. refl;
  some = λ more. absurd (omega (arith, more, is, few));
}

pub done_with : (may : ℕ → ℤ → Type 0) (line : Line) (adjusts : Bool) (place end : ℕ) (old mid new : State)
    → end ≡ marks_end old.input place → place + 1 < end → mid ≡ break_marked place end old
    → IsPutAround may line adjusts place end mid new → IsDoneAt may line adjusts place old new
done_with may line adjusts place end old mid new is more marked put = record {
  none = λ few. absurd (omega (arith, more, is, few));
  some = λ _.
      subst (λ (k : ℕ). IsPutAround may line adjusts place k (break_marked place k old) new) is
      (subst (λ (s : State). IsPutAround may line adjusts place end s new) marked put);
}

-- from the first on
pub done_from : (may : ℕ → ℤ → Type 0) (line : Line) (adjusts : Bool) (all : ℕ) (old new : State)
    → AreDone may line adjusts (all - 0) 0 old new → AreDone may line adjusts all 0 old new
done_from may line adjusts all old new done =
    let count : all - 0 ≡ all = omega arith in
    subst (λ (k : ℕ). AreDone may line adjusts k 0 old new) count done

-- what changes positions alone keeps the clusters
pub keeps_rest : (old new : State) → new ≡ record old { positions = new.positions } → KeepsClusters old new
keeps_rest old new rest = subst (KeepsClusters old) (sym rest) (keeps_positions old new.positions)
