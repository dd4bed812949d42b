-- The dotted circle before a text, or none.
use Rattle.std.proofs.Common.{◌≡◌, ℕ, ◌<◌, ◌≤◌, Bool, true, false, ◌&&◌, List, length, get_or, refl, sym, ap, subst, ◌∙◌}
use Rattle.std.specs.Prelude.{Result, Ok, Err, IfOk, MatchBool}
use Rattle.std.specs.declared.alloc.AllocError.{AllocError}
use Rattle.std.proofs.lemmas.Bool.{and_from, cases_lt, false≢true}
use Rattle.std.proofs.Common.{inl, inr}
use Rattle.std.proofs.lemmas.List.{get_or_past}
use Rattle.rb_glyph.specs.declared.info.hb_glyph_info_t.{hb_glyph_info_t}
use Rattle.glyph_lists.specs.Clusters.{zero_glyph}
use Rattle.shaping_buffer.specs.State.{State}
use Rattle.shaping_buffer.specs.ClusterStep.{head_of}
use Rattle.shaping_buffer.specs.Step.{Meets, clear_output, output_info, sync}
use Rattle.script_items.specs.Marks.{is_mark}
use Rattle.ot_characters.specs.Circle.{circle_before, with_circle, wants_circle, HasCircle, InsertsCircle}

-- no mark begins a text without characters
pub no_mark : (l : List hb_glyph_info_t) → length l ≤ 0 → is_mark (get_or l 0 zero_glyph) ≡ false
no_mark l none = ap is_mark (get_or_past l 0 zero_glyph none)

pub mark_there : (l : List hb_glyph_info_t) → is_mark (get_or l 0 zero_glyph) ≡ true → 0 < length l
mark_there l mark =
    elim (cases_lt 0 (length l)) [
      | inl some ↦ some
      | inr none ↦ absurd (false≢true (sym (no_mark l none) ∙ mark))
    ]

pub has_circle : (s t u : State) (g : hb_glyph_info_t) (r : Result Bool AllocError)
    → g ≡ circle_before (head_of s) → t ≡ (output_info g (clear_output s)).state
    → Meets (sync t) t r u → IfOk r (HasCircle s u)
unfolding with_circle
has_circle s t u g (Ok done) circle put meets =
    let is : t ≡ (output_info (circle_before (head_of s)) (clear_output s)).state =
    put ∙ ap (λ (h : hb_glyph_info_t). (output_info h (clear_output s)).state) circle in
    (meets.0 ∙ ap (λ (x : State). (sync x).done) is, meets.1 ∙ ap (λ (x : State). (sync x).state) is)
has_circle s t u g (Err e) circle put meets = tt

module _ (has : ℕ → Bool) (s : State) where
  pub inserts-none : (wants_circle s && has 0x25CC) ≡ false → InsertsCircle has s s true
  inserts-none none =
      subst (λ (b : Bool). MatchBool b (HasCircle s s true) ((true ≡ true) × (s ≡ s))) (sym none) (refl, refl)

  pub inserts-circle : (u : State) (r : Result Bool AllocError) → wants_circle s ≡ true → has 0x25CC ≡ true
      → IfOk r (HasCircle s u) → IfOk r (InsertsCircle has s u)
  inserts-circle u (Ok done) wants there circle =
      subst (λ (b : Bool). MatchBool b (HasCircle s u done) ((done ≡ true) × (u ≡ s)))
      (sym (and_from (wants_circle s) (has 0x25CC) wants there)) circle
  inserts-circle u (Err e) wants there circle = tt
