-- Ligatures: marks that are renumbered one by one, and the steps from component to component.
use Rattle.std.proofs.Common.{◌≡◌, ℕ, ◌+◌, ◌-◌, ◌<◌, true, false, List, [], ◌∷◌, length, refl, sym, ap, subst, ◌∙◌, arith}
use Rattle.std.proofs.lemmas.Bool.{cond-true, cond-false, eq-eqb, ne_eqb}
use Rattle.std.specs.Prelude.{slice_index_or, slice_set, ◌==◌, if◌then◌else◌}
use Rattle.rb_glyph.specs.declared.info.hb_glyph_info_t.{hb_glyph_info_t}
use Rattle.glyph_lists.specs.Clusters.{zero_glyph}
use Rattle.glyph_lists.proofs.MapLemmas.{mapped, mapped_at, mapped_more}
use Rattle.shaping_buffer.specs.State.{State, place_of}
use Rattle.shaping_buffer.specs.Step.{Outcome, unlimited}
use Rattle.ot_gsub.specs.Edits.{Gives, then_do}
use Rattle.ot_gsub.specs.Ligatures.{follow_marks, pass_over, renumber, renumbered, take_in, taken}
use Rattle.ot_gsub.specs.Writing.{drop_behind, glyph_ahead, hand_on, write_properties}
use Rattle.ot_gsub.specs.declared.ligation.Components.{Components}
use Rattle.ot_gsub.proofs.EditsLemmas.{outcome_is}

-- ---- outcomes

-- the second outcome does not come after a first one that was refused
pub refused_first : (o : Outcome) (f : State → Outcome) (new : State) → Gives o false new → Gives (then_do o f) false new
refused_first o f new g =
    let same : then_do o f ≡ o = cond-false _ _ _ (sym g.answer) in
    subst (λ (p : Outcome). Gives p false new) (sym same) g

pub then_do-done : (o : Outcome) (f : State → Outcome) (b : State) → Gives o true b → then_do o f ≡ f b
then_do-done o f b g = ap (λ (p : Outcome). then_do p f) (outcome_is o b g.answer g.state)

-- ---- marks that are renumbered

module _ (c : Components) (s : State) where
  renumber-step : (k : ℕ) → s.have_output ≡ true → k < length s.input
      → write_properties k (renumbered c (glyph_ahead k (renumber c k s))) (renumber c k s) ≡ renumber c (k + 1) s
  renumber-step k opened within =
      let f = renumbered c in
      let l = s.input in
      let at : place_of s k ≡ k = cond-true _ _ _ opened in
      ap (λ j. record s { input = slice_set (mapped f k l) j (f (slice_index_or (mapped f k l) j zero_glyph)) }) at
      ∙ ap (λ (xs : List hb_glyph_info_t). record s { input = xs })
      (mapped_more f l k (f (slice_index_or (mapped f k l) k zero_glyph)) zero_glyph within (ap f (mapped_at f l k zero_glyph within)))

  pub renumber-next : (k : ℕ) (b new : State) (g mark : hb_glyph_info_t) → s.have_output ≡ true → k < length s.input
      → b ≡ renumber c k s → g ≡ glyph_ahead k b → mark ≡ renumbered c g → new ≡ write_properties k mark b
      → new ≡ renumber c (k + 1) s
  renumber-next k b new g mark opened within is at marked written =
      written ∙ ap (λ (x : hb_glyph_info_t). write_properties k x b) (marked ∙ ap (renumbered c) at)
      ∙ ap (λ (t : State). write_properties k (renumbered c (glyph_ahead k t)) t) is ∙ renumber-step k opened within

-- ---- from component to component

module _ (c : Components) (place : ℕ) (places : List ℕ) (s : State) where
  abbrev passed : Outcome
  passed = pass_over c (place - c.place - 1) s

  abbrev on : State → Outcome
  on t =
      if length t.input == 0 then unlimited t
      else take_in (taken c place (glyph_ahead 0 t)) places (drop_behind (hand_on t))

  take_in-next : take_in c (place ∷ places) s ≡ then_do passed on
  unfolding take_in
  take_in-next = refl

  pub take_in-refused : (new : State) → Gives passed false new → Gives (take_in c (place ∷ places) s) false new
  take_in-refused new g =
      subst (λ (p : Outcome). Gives p false new) (sym take_in-next) (refused_first passed on new g)

  pub take_in-ended : (t : State) → Gives passed true t → length t.input ≡ 0 → take_in c (place ∷ places) s ≡ unlimited t
  take_in-ended t g none = take_in-next ∙ then_do-done passed on t g ∙ cond-true _ _ _ (eq-eqb (length t.input) 0 none)

  pub take_in-on : (t new : State) (glyph : hb_glyph_info_t) → Gives passed true t → 0 < length t.input
      → glyph ≡ glyph_ahead 0 t → new ≡ drop_behind (hand_on t)
      → take_in c (place ∷ places) s ≡ take_in (taken c place glyph) places new
  take_in-on t new glyph g some at dropped =
      take_in-next ∙ then_do-done passed on t g ∙ cond-false _ _ _ (ne_eqb (length t.input) 0 (λ e. omega (arith, some, e)))
      ∙ ap (λ (x : hb_glyph_info_t). take_in (taken c place x) places (drop_behind (hand_on t))) (sym at)
      ∙ ap (take_in (taken c place glyph) places) (sym dropped)

pub take_in-none : (c : Components) (s : State) → take_in c [] s ≡ unlimited (follow_marks c s)
unfolding take_in
take_in-none c s = refl
