use Rattle.std.proofs.Common.{◌≡◌, ◌-◌, true, false, None, Some, Ok, ap, arith, length, refl, subst, sym, ◌∙◌}
use Rattle.std.proofs.lemmas.Option.{slice_get_within}
use Rattle.std.specs.Option.{option_copied}
use Rattle.ot_layout.specs.declared.budget.Budget.{Budget}
use Rattle.shaping_buffer.proofs.KeepsLemmas.{keeps_then}
use Rattle.shaping_buffer.specs.KeepsClusters.{KeepsClusters}
use Rattle.shaping_buffer.specs.State.{State}
use Rattle.ot_gsub.specs.Changes.{glyph_numbers}
use Rattle.ot_contexts.specs.MatchPositions.{match_of}
use Rattle.ot_gsub.specs.Nested.{now_of}
use Rattle.ot_gsub.specs.Turn.{nested}
use Rattle.ot_gsub.specs.declared.nested.Step.TheVariants as step
use Rattle.ot_gsub.specs.declared.nested.Step.TheVariants.{Applied, Passed}
use Rattle.ot_gsub.specs.declared.nested.Turn.TheVariants.{On, Refused}
use Rattle.ot_gsub.specs.declared.substitution.Progress.{Progress}
use Rattle.ot_gsub.proofs.ChangesLemmas.{glyph_numbers-mark_reach}
use Rattle.ot_gsub.proofs.NestedLemmas.{Leads, along, done_by, done_refused, fit_ended, left_cut, left_enough, left_next, left_none, lookahead_len-opened, left_refused, none_left}
use Rattle.ot_gsub.proofs.TurnLemmas.{decided_by, ends_by_choose, nested-at_end, nested-given_up, nested-not_there, nested_by_turn, turn_applied, turn_err, turn_passed, turn_refused}
use Rattle.ot_gsub.proofs.nested.+nested.Goals as goal
use Rattle.ot_gsub.proofs.nested.+nested.Goals.{apply_fit-else-loop-index-test, apply_fit-then-loop-index-test+in_default, apply_fit-then-loop-index-test+in-Some+in_ok-apply_record+in-Enough}
use Rattle.ot_gsub.proofs.nested.+nested.Goals.{apply_other-then-depth-eq0-via-then-depth-eq0, apply_other-then-depth-eq0-via-else-depth-eq0+then-not-nest}

pub apply_at-returns-in_default-clause-numbers : goal.apply_at-returns-in_default-clause-numbers
apply_at-returns-in_default-clause-numbers t c = λ is.
    ap glyph_numbers c.mark_reach.ensures.is
    ∙ glyph_numbers-mark_reach c.edit_at-edit.new.search.reach c.args.buffer.now

pub apply_at-edit_at-edit-requires : goal.apply_at-edit_at-edit-requires
apply_at-edit_at-edit-requires t c = omega (arith, c.requires.glyph, ap length c.apply_context-ctx.ensures.input)

pub apply_at-returns-in_default-clause-turn : goal.apply_at-returns-in_default-clause-turn
apply_at-returns-in_default-clause-turn t c = λ steps.
    let p = c.args.progress.now in
    let q : Progress = record p { search = c.edit_at-edit.new.search } in
    let s = c.args.buffer.now in
    let subs = c.args.substitutions.now in
    let lookup = c.args.applied.now.lookup.now in
    let decided = decided_by c.args.depth subs lookup p q s c.apply_context-ctx.result c.edit_at-edit.result None
    c.apply_context-ctx.ensures (c.edit_at-edit.ensures.first steps) c.in_default.is in
    turn_passed c.args.depth subs lookup p q s q.search.reach c.mark_reach.new.buffer decided c.mark_reach.ensures.is refl
    c.edit_at-edit.ensures.spent.0

pub apply_at-returns-in_err-make-clause-turn : goal.apply_at-returns-in_err-make-clause-turn
apply_at-returns-in_err-make-clause-turn t c = λ steps.
    let p = c.args.progress.now in
    let q : Progress = record p { search = c.edit_at-edit.new.search } in
    let s = c.args.buffer.now in
    let subs = c.args.substitutions.now in
    let lookup = c.args.applied.now.lookup.now in
    let decided = decided_by c.args.depth subs lookup p q s c.apply_context-ctx.result c.edit_at-edit.result (Some c.in-Some.edit)
    c.apply_context-ctx.ensures (c.edit_at-edit.ensures.first (omega (arith, steps, c.make.ensures.spent.1))) c.in-Some.is in
    turn_err c.args.depth subs lookup p q s c.in-Some.edit q.search.reach c.mark_reach.new.buffer c.make.new.buffer c.make.new.progress
    c.make.result decided c.mark_reach.ensures.is refl c.edit_at-edit.ensures.spent.0 (c.make.ensures.edited steps)
    c.in_err-make.field-0.0 c.from_residual.result _ c.in_err-make.was c.from_residual.ensures.0

pub apply_at-returns-then-not-branch-clause-turn : goal.apply_at-returns-then-not-branch-clause-turn
apply_at-returns-then-not-branch-clause-turn t c = λ steps.
    let p = c.args.progress.now in
    let q : Progress = record p { search = c.edit_at-edit.new.search } in
    let s = c.args.buffer.now in
    let subs = c.args.substitutions.now in
    let lookup = c.args.applied.now.lookup.now in
    let decided = decided_by c.args.depth subs lookup p q s c.apply_context-ctx.result c.edit_at-edit.result (Some c.in-Some.edit)
    c.apply_context-ctx.ensures (c.edit_at-edit.ensures.first (omega (arith, steps, c.make.ensures.spent.1))) c.in-Some.is in
    turn_refused c.args.depth subs lookup p q s c.in-Some.edit q.search.reach c.mark_reach.new.buffer c.make.new.buffer c.make.new.progress
    c.make.result decided c.mark_reach.ensures.is refl c.edit_at-edit.ensures.spent.0 (c.make.ensures.edited steps)
    (c.in_ok-make.was ∙ ap (λ b. Ok b) c.if-not-branch.true)

pub apply_at-returns-clause-turn : goal.apply_at-returns-clause-turn
apply_at-returns-clause-turn t c = λ steps.
    let p = c.args.progress.now in
    let q : Progress = record p { search = c.edit_at-edit.new.search } in
    let s = c.args.buffer.now in
    let subs = c.args.substitutions.now in
    let lookup = c.args.applied.now.lookup.now in
    let decided = decided_by c.args.depth subs lookup p q s c.apply_context-ctx.result c.edit_at-edit.result (Some c.in-Some.edit)
    c.apply_context-ctx.ensures (c.edit_at-edit.ensures.first (omega (arith, steps, c.make.ensures.spent.1))) c.in-Some.is in
    turn_applied c.args.depth subs lookup p q s c.in-Some.edit q.search.reach c.mark_reach.new.buffer c.make.new.buffer c.make.new.progress
    c.make.result decided c.mark_reach.ensures.is refl c.edit_at-edit.ensures.spent.0 (c.make.ensures.edited steps)
    c.rest_beyond-rest.result c.mark_beyond.new.buffer
    (c.in_ok-make.was ∙ ap (λ b. Ok b) c.if-not-branch.false) c.rest_beyond-rest.ensures c.mark_beyond.ensures.is

pub make-returns-in-Choose-clause-edited : goal.make-returns-in-Choose-clause-edited
make-returns-in-Choose-clause-edited t c = λ steps.
    ends_by_choose (nested c.args.depth c.args.substitutions.now) c.args.substitutions.now.gdef.now.table.now
    c.args.progress.now.search.places.items c.args.buffer.now c.args.progress.now c.choose.new.progress c.choose.new.buffer
    c.args.edit.now c.in-Choose.set _ c.in-Choose.is c.choose.ensures.random c.choose.ensures.same_search c.choose.ensures.gives

pub apply_other-returns-then-depth-eq0-clause-applied : goal.apply_other-returns-then-depth-eq0-clause-applied
apply_other-returns-then-depth-eq0-clause-applied t c = λ steps.
    let p = c.args.progress.now in
    let q = c.then-depth-eq0.progress in
    let old = now_of c.args.buffer.now p in
    let failed : State = record c.args.buffer.now { shaping_failed = true } in
    let at : now_of c.fail.new.buffer q ≡ now_of failed q = ap (λ (b : State). now_of b q) c.fail.ensures.is in
    elim c.then-depth-eq0.branch [
      | apply_other-then-depth-eq0-via-then-depth-eq0 w ↦
          nested-given_up c.args.substitutions.now c.args.index c.args.depth old (now_of c.fail.new.buffer q)
          (at ∙ ap (λ (x : Progress). now_of failed x) w.progress-is)
          (λ deep. absurd (omega (arith, deep, w.if-depth-eq0.true)))
      | apply_other-then-depth-eq0-via-else-depth-eq0+then-not-nest w ↦
          let none : p.search.budget.nested ≡ 0
          = none_left p.search.budget.nested w.nest.result w.nest.ensures.paid.1 w.if-not-nest.true in
          let left : w.nest.new.self.nested ≡ p.search.budget.nested - 1
          = ap (λ (b : Budget). b.nested) w.nest.ensures.left in
          let same : w.nest.new.self.nested ≡ p.search.budget.nested = omega (arith, none, left) in
          nested-given_up c.args.substitutions.now c.args.index c.args.depth old (now_of c.fail.new.buffer q)
          (at ∙ ap (λ (x : Progress). now_of failed x) w.progress-is
          ∙ ap (λ k. record (now_of failed p) { left = k }) same)
          (λ deep. none)
    ]

pub apply_other-returns-then-lookahead_len-eq0-clause-applied : goal.apply_other-returns-then-lookahead_len-eq0-clause-applied
apply_other-returns-then-lookahead_len-eq0-clause-applied t c = λ steps.
    let old = now_of c.args.buffer.now c.args.progress.now in
    nested-at_end c.args.substitutions.now c.args.index c.args.depth old _ (omega (arith, c.if-depth-eq0.false))
    (c.nest.ensures.paid.0 c.if-not-nest.false)
    (omega (arith, c.if-lookahead_len-eq0.true, c.lookahead_len.ensures, lookahead_len-opened c.args.buffer.now c.requires))
    (ap (λ k. record old { left = k }) (ap (λ (b : Budget). b.nested) c.nest.ensures.left))

pub apply_other-returns-in-Some-clause-applied : goal.apply_other-returns-in-Some-clause-applied
apply_other-returns-in-Some-clause-applied t c = λ steps.
    let old = now_of c.args.buffer.now c.args.progress.now in
    nested_by_turn c.args.substitutions.now c.args.index c.args.depth c.new-applied.result.lookup.now old _ c.apply_at.result _
    (omega (arith, c.if-depth-eq0.false)) (c.nest.ensures.paid.0 c.if-not-nest.false)
    (omega (arith, c.if-lookahead_len-eq0.false, c.lookahead_len.ensures, lookahead_len-opened c.args.buffer.now c.requires))
    (sym c.lookup.ensures ∙ ap option_copied c.in-Some.is ∙ ap (λ l. Some l) (sym c.new-applied.ensures.lookup))
    (ap (λ k. record old { left = k }) (ap (λ (b : Budget). b.nested) c.nest.ensures.left)) (c.apply_at.ensures.turn steps)

pub apply_other-returns-in-None-clause-applied : goal.apply_other-returns-in-None-clause-applied
apply_other-returns-in-None-clause-applied t c = λ steps.
    let old = now_of c.args.buffer.now c.args.progress.now in
    nested-not_there c.args.substitutions.now c.args.index c.args.depth old _ (omega (arith, c.if-depth-eq0.false))
    (c.nest.ensures.paid.0 c.if-not-nest.false)
    (omega (arith, c.if-lookahead_len-eq0.false, c.lookahead_len.ensures, lookahead_len-opened c.args.buffer.now c.requires))
    (sym c.lookup.ensures ∙ ap option_copied c.in-None.is)
    (ap (λ k. record old { left = k }) (ap (λ (b : Budget). b.nested) c.nest.ensures.left))

pub apply_record-returns-then-not-branch-clause-done : goal.apply_record-returns-then-not-branch-clause-done
apply_record-returns-then-not-branch-clause-done t c = λ steps.
    done_refused (nested c.args.depth c.args.substitutions.now) c.args.lookup_record.now (match_of c.args.matched.now) c.args.buffer.now
    c.args.progress.now c.in-Some.place c.both_len-before.result (sym c.place.ensures ∙ c.in-Some.is) c.both_len-before.ensures.is
    (omega (arith, c.if-place-before.false)) c.in_ok-move_to.field-0 c.move_to.new.self c.pay_for.new.self.nested
    c.in_ok-move_to.ensures.meets
    (ap (λ (x : Budget). x.nested) c.pay_for.ensures.left ∙ ap (λ (x : Budget). x.nested) c.pay.ensures.left) c.if-not-branch.true

pub apply_record-follow-requires-clause-number : goal.apply_record-follow-requires-clause-number
apply_record-follow-requires-clause-number t c =
    slice_get_within c.args.matched.now.places.items c.args.lookup_record.now.sequence_index c.in-Some.place
    (sym c.place.ensures ∙ c.in-Some.is)

pub apply_record-returns-in-Passed-clause-done : goal.apply_record-returns-in-Passed-clause-done
apply_record-returns-in-Passed-clause-done t c = λ steps.
    done_by (nested c.args.depth c.args.substitutions.now) c.args.lookup_record.now (match_of c.args.matched.now) c.args.buffer.now
    c.args.progress.now c.in-Some.place c.both_len-before.result (sym c.place.ensures ∙ c.in-Some.is) c.both_len-before.ensures.is
    (omega (arith, c.if-place-before.false)) c.in_ok-move_to.field-0 c.move_to.new.self c.pay_for.new.self.nested
    c.in_ok-move_to.ensures.meets
    (ap (λ (x : Budget). x.nested) c.pay_for.ensures.left ∙ ap (λ (x : Budget). x.nested) c.pay.ensures.left)
    _ Passed (now_of c.apply_other.new.buffer c.apply_other.new.progress) On (match_of c.args.matched.now) _
    c.if-not-branch.false (c.in_ok-apply_other.ensures.applied steps) c.in-Passed.is (refl, refl, refl)

pub apply_record-returns-in-Refused-clause-done : goal.apply_record-returns-in-Refused-clause-done
apply_record-returns-in-Refused-clause-done t c = λ steps.
    done_by (nested c.args.depth c.args.substitutions.now) c.args.lookup_record.now (match_of c.args.matched.now) c.args.buffer.now
    c.args.progress.now c.in-Some.place c.both_len-before.result (sym c.place.ensures ∙ c.in-Some.is) c.both_len-before.ensures.is
    (omega (arith, c.if-place-before.false)) c.in_ok-move_to.field-0 c.move_to.new.self c.pay_for.new.self.nested
    c.in_ok-move_to.ensures.meets
    (ap (λ (x : Budget). x.nested) c.pay_for.ensures.left ∙ ap (λ (x : Budget). x.nested) c.pay.ensures.left)
    _ step.Refused (now_of c.apply_other.new.buffer c.apply_other.new.progress) Refused (match_of c.args.matched.now) _
    c.if-not-branch.false (c.in_ok-apply_other.ensures.applied steps) c.in-Refused.is (refl, refl, refl)

pub apply_record-returns-in-Applied-clause-done : goal.apply_record-returns-in-Applied-clause-done
apply_record-returns-in-Applied-clause-done t c = λ steps.
    done_by (nested c.args.depth c.args.substitutions.now) c.args.lookup_record.now (match_of c.args.matched.now) c.args.buffer.now
    c.args.progress.now c.in-Some.place c.both_len-before.result (sym c.place.ensures ∙ c.in-Some.is) c.both_len-before.ensures.is
    (omega (arith, c.if-place-before.false)) c.in_ok-move_to.field-0 c.move_to.new.self c.pay_for.new.self.nested
    c.in_ok-move_to.ensures.meets
    (ap (λ (x : Budget). x.nested) c.pay_for.ensures.left ∙ ap (λ (x : Budget). x.nested) c.pay.ensures.left)
    _ Applied (now_of c.apply_other.new.buffer c.apply_other.new.progress) c.follow.result (match_of c.follow.new.matched)
    (now_of c.follow.new.buffer c.apply_other.new.progress) c.if-not-branch.false
    (c.in_ok-apply_other.ensures.applied steps) c.in-Applied.is (
      c.follow.ensures.turn,
      c.follow.ensures.follows,
      ap (λ (x : State). now_of x c.apply_other.new.progress) c.follow.ensures.is,
    )

pub apply_fit-returns-in-Refused-clause-done : goal.apply_fit-returns-in-Refused-clause-done
apply_fit-returns-in-Refused-clause-done t c = λ steps.
    let mid = now_of c.apply_record.new.buffer c.apply_record.new.progress in
    c.loop-index.invariant.rest (omega (arith, steps, c.apply_record.ensures.spent.1)) false mid
    (left_refused (nested c.args.depth c.args.substitutions.now) c.args.fit.now.records.now c.loop-index.index
    c.args.fit.now.record_count c.in-Some.lookup_record (match_of c.loop-index.matched)
    (now_of c.loop-index.buffer c.loop-index.progress) (match_of c.apply_record.new.matched) mid false mid
    (omega (arith, c.loop-index-test.true, c.from-index-end.ensures)) (sym (c.record-found.ensures (omega arith)) ∙ c.in-Some.is)
    _ (c.in_ok-apply_record.ensures.done steps) c.in-Refused.is refl refl)

pub apply_fit-loop-index-preserved : goal.apply_fit-loop-index-preserved
apply_fit-loop-index-preserved t c = record {
  opened = c.in_ok-apply_record.ensures.left;
  keeps = keeps_then c.args.buffer.now c.loop-index.buffer c.apply_record.new.buffer c.loop-index.invariant.keeps
      c.apply_record.ensures.keeps;
  spent = (
    omega (arith, c.loop-index.invariant.spent.0, c.apply_record.ensures.spent.0),
    omega (arith, c.loop-index.invariant.spent.1, c.apply_record.ensures.spent.1),
  );
  rest = λ steps done new left.
      let mid = now_of c.apply_record.new.buffer c.apply_record.new.progress in
      c.loop-index.invariant.rest (omega (arith, steps, c.apply_record.ensures.spent.1)) done new
      (left_next (nested c.args.depth c.args.substitutions.now) c.args.fit.now.records.now c.loop-index.index
      c.args.fit.now.record_count c.in-Some.lookup_record (match_of c.loop-index.matched)
      (now_of c.loop-index.buffer c.loop-index.progress) (match_of c.apply_record.new.matched) mid done new
      (omega (arith, c.loop-index-test.true, c.from-index-end.ensures))
      (sym (c.record-found.ensures (omega arith)) ∙ c.in-Some.is)
      _ (c.in_ok-apply_record.ensures.done steps) c.in-On.is left);
}

pub apply_fit-returns-clause-done : goal.apply_fit-returns-clause-done
apply_fit-returns-clause-done t c = λ steps.
    let applies = nested c.args.depth c.args.substitutions.now in
    let fit = c.args.fit.now in
    let table = fit.records.now in
    let k = c.loop-index.index in
    let m = match_of c.loop-index.matched in
    let old = now_of c.loop-index.buffer c.loop-index.progress in
    let leads = Leads applies fit c.args.progress.now.search.places.items c.args.buffer.now c.args.progress.now in
    let all : leads c.loop-index-test.buffer c.loop-index-test.progress c.loop-index-test.matched =
    elim c.loop-index-test.branch [
      | apply_fit-else-loop-index-test w ↦
          along leads c.loop-index.buffer c.loop-index-test.buffer c.loop-index.progress c.loop-index-test.progress
          c.loop-index.matched c.loop-index-test.matched w.buffer-is w.progress-is w.matched-is
          (λ left done new behind. c.loop-index.invariant.rest left done new
          (left_none applies table k fit.record_count m old done new
          (omega (arith, w.loop-index-test.false, c.from-index-end.ensures)) behind))
      | apply_fit-then-loop-index-test+in_default w ↦
          along leads c.loop-index.buffer c.loop-index-test.buffer c.loop-index.progress c.loop-index-test.progress
          c.loop-index.matched c.loop-index-test.matched w.buffer-is w.progress-is w.matched-is
          (λ left done new behind. c.loop-index.invariant.rest left done new
          (left_cut applies table k fit.record_count m old done new
          (sym (w.record-found.ensures (omega (arith, w.loop-index-test.true))) ∙ w.in_default.is) behind))
      | apply_fit-then-loop-index-test+in-Some+in_ok-apply_record+in-Enough w ↦
          let r = w.in-Some.lookup_record in
          let n = match_of w.apply_record.new.matched in
          let mid = now_of w.apply_record.new.buffer w.apply_record.new.progress in
          along leads w.apply_record.new.buffer c.loop-index-test.buffer w.apply_record.new.progress c.loop-index-test.progress
          w.apply_record.new.matched c.loop-index-test.matched w.buffer-is w.progress-is w.matched-is
          (λ left done new behind. c.loop-index.invariant.rest (omega (arith, left, w.apply_record.ensures.spent.1)) done new
          (left_enough applies table k fit.record_count r m old n mid done new
          (omega (arith, w.loop-index-test.true, c.from-index-end.ensures))
          (sym (w.record-found.ensures (omega (arith, w.loop-index-test.true))) ∙ w.in-Some.is)
          _ (w.in_ok-apply_record.ensures.done left) w.in-Enough.is behind))
    ] in
    fit_ended applies fit c.args.progress.now.search.places.items c.args.buffer.now c.loop-index-test.buffer c.args.progress.now
    c.loop-index-test.progress (match_of c.loop-index-test.matched) c.go_to.result c.go_to.new.buffer (all steps)
    c.go_to.ensures.gives

pub apply_fit-returns-clause-keeps : goal.apply_fit-returns-clause-keeps
apply_fit-returns-clause-keeps t c =
    let s = c.args.buffer.now in
    let b = c.loop-index.buffer in
    let start = c.loop-index.invariant.keeps in
    let kept : KeepsClusters s c.loop-index-test.buffer =
    elim c.loop-index-test.branch [
      | apply_fit-else-loop-index-test w ↦ subst (KeepsClusters s) (sym w.buffer-is) start
      | apply_fit-then-loop-index-test+in_default w ↦ subst (KeepsClusters s) (sym w.buffer-is) start
      | apply_fit-then-loop-index-test+in-Some+in_ok-apply_record+in-Enough w ↦
          subst (KeepsClusters s) (sym w.buffer-is)
          (keeps_then s b w.apply_record.new.buffer start w.apply_record.ensures.keeps)
    ] in
    keeps_then s c.loop-index-test.buffer c.go_to.new.buffer kept c.go_to.ensures.keeps
