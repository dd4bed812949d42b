-- Marks of Arabic: where those end that pass a test, and what is written over them.
use Rattle.std.proofs.Common.{◌≡◌, ℕ, ◌+◌, ◌-◌, ◌<◌, ◌≤◌, Bool, true, false, List, length, get_or, take, refl, ap, ◌∙◌, arith}
use Rattle.std.proofs.lemmas.Bool.{cond_both, cond-true, cond-false, lt-ltb, le-ltb, or_left, or_right, or_from}
use Rattle.std.proofs.lemmas.List.{get_or-take, length-take-le}
use Rattle.std.proofs.lemmas.List.Sums.{prefix_len-drop_yes, prefix_len-drop_no, prefix_len-drop_all}
use Rattle.rb_glyph.specs.declared.info.hb_glyph_info_t.{hb_glyph_info_t}
use Rattle.glyph_lists.specs.Clusters.{zero_glyph}
use Rattle.script_items.specs.Marks.{is_mark, with_class}
use Rattle.shaping_buffer.specs.State.{State, len}
use Rattle.script_joining.specs.ArabicMarks.{is_multiplied, passing_end, recorded, both_moved, marks_reordered, put_first, put_if_any}

module _ (test : hb_glyph_info_t → Bool) (l : List hb_glyph_info_t) (n end : ℕ) where
  pub passing_end-more : n < end → end ≤ length l → test (get_or l n zero_glyph) ≡ true
      → passing_end test l (n + 1) end ≡ passing_end test l n end
  unfolding passing_end
  passing_end-more some within passes =
      let long : length (take end l) ≡ end = length-take-le end l within in
      let here : test (get_or (take end l) n zero_glyph) ≡ true = ap test (get_or-take end l n zero_glyph some) ∙ passes in
      omega (arith, prefix_len-drop_yes test (take end l) n zero_glyph (omega (arith, long, some)) here)

  pub passing_end-here : n < end → end ≤ length l → test (get_or l n zero_glyph) ≡ false → passing_end test l n end ≡ n
  unfolding passing_end
  passing_end-here some within fails =
      let long : length (take end l) ≡ end = length-take-le end l within in
      let here : test (get_or (take end l) n zero_glyph) ≡ false = ap test (get_or-take end l n zero_glyph some) ∙ fails in
      omega (arith, prefix_len-drop_no test (take end l) n zero_glyph (omega (arith, long, some)) here)

  pub passing_end-none : end ≤ n → end ≤ length l → passing_end test l n end ≡ n
  unfolding passing_end
  passing_end-none past within =
      let long : length (take end l) ≡ end = length-take-le end l within in
      omega (arith, prefix_len-drop_all test (take end l) n (omega (arith, long, past)))

pub ruleset walks = (passing_end-more, passing_end-here, passing_end-none)

pub with_class-cluster : (class : ℕ) (g : hb_glyph_info_t) → (with_class class g).cluster ≡ g.cluster
with_class-cluster class g =
    cond_both (is_mark g) _ g (λ (h : hb_glyph_info_t). h.cluster ≡ g.cluster) (λ _. refl) (λ _. refl)

pub recorded-cluster : (g : hb_glyph_info_t) → (recorded g).cluster ≡ g.cluster
unfolding recorded
recorded-cluster g =
    cond_both (is_multiplied g) _ g (λ (h : hb_glyph_info_t). h.cluster ≡ g.cluster) (λ _. refl) (λ _. refl)

-- ---- what is done, by what holds

module _ (start first last class : ℕ) (s : State) where
  pub put_if_any-some : first < last → put_if_any start first last class s ≡ put_first start first last class s
  unfolding put_if_any
  put_if_any-some some = cond-true _ _ _ (lt-ltb first last some)

  pub put_if_any-none : last ≤ first → put_if_any start first last class s ≡ s
  unfolding put_if_any
  put_if_any-none none = cond-false _ _ _ (le-ltb first last none)

module _ (start end : ℕ) (s : State) where
  pub marks_reordered-some : start ≤ end → end ≤ len s → marks_reordered start end s ≡ both_moved start end s
  unfolding marks_reordered
  marks_reordered-some order within = cond-false _ _ _ (or_from _ _ (le-ltb end start order) (le-ltb (len s) end within))

  pub marks_reordered-order : end < start → marks_reordered start end s ≡ s
  unfolding marks_reordered
  marks_reordered-order order = cond-true _ _ _ (or_left _ _ (lt-ltb end start order))

  pub marks_reordered-past : len s < end → marks_reordered start end s ≡ s
  unfolding marks_reordered
  marks_reordered-past past = cond-true _ _ _ (or_right _ _ (lt-ltb (len s) end past))

pub ruleset steps = (put_if_any-some, put_if_any-none, marks_reordered-order, marks_reordered-past)
