use Rattle.std.proofs.Common.{◌≡◌, ◌+◌, ◌-◌, ◌<◌, ◌∷◌, Bool, true, false, List, ℕ, length, drop, refl, sym, ap, subst, ◌∙◌, arith}
use Rattle.std.proofs.lemmas.Bool.{cond-true}
use Rattle.std.proofs.lemmas.List.{drop_all, drop_more}
use Rattle.std.specs.Prelude.{slice_index}
use Rattle.shaping_buffer.proofs.KeepsLemmas.{keeps_then}
use Rattle.shaping_buffer.specs.State.{State, len, lookahead_len}
use Rattle.shaping_buffer.specs.Step.{Outcome}
use Rattle.ot_gsub.specs.Edits.{Gives}
use Rattle.ot_gsub.specs.Ligatures.{pass_over, take_in}
use Rattle.ot_gsub.specs.declared.ligation.Components.{Components}
use Rattle.ot_gsub.proofs.LigaturesLemmas.{take_in-ended, take_in-none, take_in-on, take_in-refused}
use Rattle.ot_gsub.proofs.ligation.take_in.Goals as goal

left_open : (s : State) → s.have_output ≡ true → lookahead_len s ≡ length s.input
left_open s opened = let all : len s ≡ s.idx + length s.input = cond-true _ _ _ opened in omega (arith, all)

-- the place after those that were taken in, and the others
next_place : (first c : Components) (places : List ℕ) (s b : State) (k : ℕ) → k < length places
    → take_in first places s ≡ take_in c (drop k places) b
    → take_in first places s ≡ take_in c (slice_index places k ∷ drop (k + 1) places) b
next_place first c places s b k within so_far = so_far ∙ ap (λ (l : List ℕ). take_in c l b) (drop_more places k 0 within)

-- what was passed over before a place
passed_at : (c : Components) (place passed : ℕ) (b new : State) (done told : Bool) → passed ≡ place - c.place - 1 → told ≡ done
    → Gives (pass_over c passed b) told new → Gives (pass_over c (place - c.place - 1) b) done new
passed_at c place passed b new done told is was g =
    subst (λ k. Gives (pass_over c k b) done new) is (subst (λ (d : Bool). Gives (pass_over c passed b) d new) was g)

pub returns-then-not-branch-clause-gives : goal.returns-then-not-branch-clause-gives
returns-then-not-branch-clause-gives c =
    let places = c.args.places.now in
    let k = c.loop-place.place-index in
    let b = c.loop-place.buffer in
    let comp = c.loop-place.components in
    let new = c.pass_over.new.buffer in
    let place = slice_index places k in
    subst (λ (o : Outcome). Gives o false new)
    (sym (next_place c.args.first.now comp places c.args.buffer.now b k c.loop-place-test.true c.loop-place.invariant.rest))
    (take_in-refused comp place (drop (k + 1) places) b new
    (passed_at comp place c.passed_before-passed.result b new false c.in_ok-pass_over.field-0 c.passed_before-passed.ensures
    c.if-not-branch.true c.in_ok-pass_over.ensures.gives))

pub returns-then-lookahead_len-eq0-clause-gives : goal.returns-then-lookahead_len-eq0-clause-gives
returns-then-lookahead_len-eq0-clause-gives c =
    let places = c.args.places.now in
    let k = c.loop-place.place-index in
    let b = c.loop-place.buffer in
    let comp = c.loop-place.components in
    let t = c.pass_over.new.buffer in
    let place = slice_index places k in
    let none : length t.input ≡ 0 = omega (arith, c.if-lookahead_len-eq0.true, c.lookahead_len.ensures, left_open t c.in_ok-pass_over.ensures.left) in
    subst (λ (o : Outcome). Gives o true t)
    (sym (next_place c.args.first.now comp places c.args.buffer.now b k c.loop-place-test.true c.loop-place.invariant.rest
    ∙ take_in-ended comp place (drop (k + 1) places) b t
    (passed_at comp place c.passed_before-passed.result b t true c.in_ok-pass_over.field-0 c.passed_before-passed.ensures
    c.if-not-branch.false c.in_ok-pass_over.ensures.gives) none))
    (record { answer = refl; state = refl })

pub loop-place-preserved : goal.loop-place-preserved
loop-place-preserved c =
    let s = c.args.buffer.now in
    let places = c.args.places.now in
    let k = c.loop-place.place-index in
    let b = c.loop-place.buffer in
    let comp = c.loop-place.components in
    let t = c.pass_over.new.buffer in
    let new = c.drop_component.new.buffer in
    let place = slice_index places k in
    let some : 0 < length t.input = omega (arith, c.if-lookahead_len-eq0.false, c.lookahead_len.ensures, left_open t c.in_ok-pass_over.ensures.left) in
    record {
      opened = c.drop_component.ensures.opened;
      keeps = keeps_then s b new c.loop-place.invariant.keeps (keeps_then b t new c.pass_over.ensures.keeps c.drop_component.ensures.keeps);
      rest = next_place c.args.first.now comp places s b k c.loop-place-test.true c.loop-place.invariant.rest
          ∙ take_in-on comp place (drop (k + 1) places) b t new c.glyph_ahead.result
          (passed_at comp place c.passed_before-passed.result b t true c.in_ok-pass_over.field-0
          c.passed_before-passed.ensures c.if-not-branch.false c.in_ok-pass_over.ensures.gives)
          some c.glyph_ahead.ensures c.drop_component.ensures.is
          ∙ ap (λ (x : Components). take_in x (drop (k + 1) places) new) (sym c.take.ensures);
    }

pub returns-clause-gives : goal.returns-clause-gives
returns-clause-gives c =
    let places = c.args.places.now in
    let k = c.loop-place.place-index in
    let b = c.loop-place.buffer in
    let comp = c.loop-place.components in
    subst (λ (o : Outcome). Gives o true c.follow_marks.new.buffer)
    (sym (c.loop-place.invariant.rest
    ∙ ap (λ (l : List ℕ). take_in comp l b) (drop_all k places c.loop-place-test.false) ∙ take_in-none comp b))
    (record { answer = refl; state = c.follow_marks.ensures.is })
