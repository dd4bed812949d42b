use Rattle.std.proofs.Common.{◌≡◌, ◌+◌, ◌<◌, Bool, false, true, length, Result, Some, Ok, ap, arith, inl, inr, refl, subst, sym, ◌∙◌}
use Rattle.std.proofs.lemmas.Bool.{cond-true}
use Rattle.std.specs.declared.alloc.AllocError.{AllocError}
use Rattle.shaping_buffer.proofs.KeepsLemmas.{keeps_none, keeps_then}
use Rattle.shaping_buffer.specs.State.{len}
use Rattle.ot_gsub.specs.Nested.{now_of}
use Rattle.ot_gsub.specs.Runs.{IsUnderWay}
use Rattle.ot_gsub.specs.Singles.{HasMoved, IsForNext, IsLevel, IsSingle}
use Rattle.ot_gsub.specs.Turn.{IsTurnAt, passed_by}
use Rattle.ot_gsub.specs.declared.nested.Step.{Step}
use Rattle.ot_gsub.proofs.ChangesLemmas.{error_is_no_answer, glyph_numbers-goes_on, tells_none, tells_then}
use Rattle.ot_gsub.proofs.NestedLemmas.{lookahead_len-opened}
use Rattle.ot_gsub.proofs.RunsLemmas.{has_none, rest_ended, rest_failed, rest_more, rest_refused, turn_failed, turn_refused}
use Rattle.ot_gsub.proofs.SinglesLemmas.{err_is_no_answer, false_is_no_answer, leads_by_turn, level_moved, moves_more, moves_none, next_moved, no_error, single_moved}
use Rattle.ot_gsub.proofs.StepLemmas.{after_step, is_not_refused, moved_by_step, refused_by, rest_by_error, tells_by_step}
use Rattle.ot_gsub.proofs.substitution.substitute_rest.Goals as goal

pub loop-turn-init : goal.loop-turn-init
loop-turn-init c =
    let s = c.args.buffer.now in
    let subs = c.args.substitutions.now in
    let lookup = c.args.applied.now.lookup.now in
    record {
      opened = c.requires.opened;
      keeps = keeps_none s;
      spent = (omega arith, omega arith);
      tells = tells_none s c.args.progress.now.has_changed;
      moves = λ steps single level next. moves_none subs lookup s next;
      done = λ steps next. has_none subs lookup (now_of s c.args.progress.now) next;
    }

pub loop-turn-preserved : goal.loop-turn-preserved
loop-turn-preserved c =
    let s = c.args.buffer.now in
    let p = c.args.progress.now in
    let subs = c.args.substitutions.now in
    let lookup = c.args.applied.now.lookup.now in
    let b = c.loop-turn.buffer in
    let q = c.loop-turn.progress in
    let t = c.loop-turn._turn in
    let mid = c.apply_at.new.buffer in
    let r = c.apply_at.new.progress in
    let new = c.go_on.new.buffer in
    let was : c.apply_at.result ≡ Ok c.in_ok-step.step = c.in_ok-step.was in
    let is : passed_by c.in_ok-step.step ≡ Some c.in-Some.passed = sym c.passed.ensures ∙ c.in-Some.is in
    let some : 0 < length b.input =
    omega (arith, c.if-lookahead_len-eq0.false, c.lookahead_len.ensures, lookahead_len-opened b c.loop-turn.invariant.opened) in
    let under : 0 < r.search.budget.steps → IsForNext subs lookup s
    → IsUnderWay subs lookup 1 (now_of b q) c.go_on.result (now_of new r) =
    (λ steps next.
    let before : 0 < q.search.budget.steps = omega (arith, steps, c.apply_at.ensures.spent.1) in
    let m = c.loop-turn.invariant.done before next in
    after_step subs lookup (now_of b q) (now_of mid r) c.in_ok-step.step c.in-Some.passed c.go_on.result new some (m.next some) is
    (subst (λ (x : Result Step AllocError). IsTurnAt 64 subs lookup (now_of b q) x (now_of mid r)) was (c.apply_at.ensures.turn steps))
    c.in_ok-step.ensures.left
    (λ passed. omega (arith, some, c.apply_at.ensures.same_length (was ∙ ap (λ (x : Step). Ok x) passed)))
    (c.go_on.ensures.on, c.go_on.ensures.wants)) in
    let moves : 0 < r.search.budget.steps → IsSingle subs lookup s → IsLevel s → IsForNext subs lookup s
    → (c.go_on.result ≡ Ok true) × HasMoved subs lookup 1 b new =
    (λ steps single level next.
    let before : 0 < q.search.budget.steps = omega (arith, steps, c.apply_at.ensures.spent.1) in
    let m = c.loop-turn.invariant.moves before single level next in
    moved_by_step subs lookup b q c.apply_at.result c.in_ok-step.step c.in-Some.passed (now_of mid r) c.go_on.result new
    (level_moved subs lookup t s b level m) (single_moved subs lookup t s b single m) (next_moved subs lookup t s b m) some was is
    (c.apply_at.ensures.turn steps) c.go_on.ensures.in_place c.go_on.ensures.on) in
    let on : c.go_on.result ≡ Ok true = c.in_ok-go_on.was ∙ ap (λ (d : Bool). Ok d) c.if-not-branch.false in
    record {
      opened = c.in_ok-go_on.ensures.left;
      keeps = keeps_then s mid new (keeps_then s b mid c.loop-turn.invariant.keeps c.apply_at.ensures.keeps) c.go_on.ensures.keeps;
      spent = (
        omega (arith, c.loop-turn.invariant.spent.0, c.apply_at.ensures.spent.0),
        omega (arith, c.loop-turn.invariant.spent.1, c.apply_at.ensures.spent.1),
      );
      tells = tells_then s b new p.has_changed q.has_changed r.has_changed c.loop-turn.invariant.tells
          (tells_by_step b mid new q.has_changed r.has_changed c.apply_at.result c.in_ok-step.step c.in-Some.passed was is
          c.apply_at.ensures.changed c.apply_at.ensures.passed c.apply_at.ensures.numbers
          (glyph_numbers-goes_on lookup subs.options.mask c.in-Some.passed mid c.go_on.result new c.in_ok-step.ensures.left
          c.go_on.ensures.on on));
      moves = λ steps single level next.
          let before : 0 < q.search.budget.steps = omega (arith, steps, c.apply_at.ensures.spent.1) in
          moves_more subs lookup t s b new (c.loop-turn.invariant.moves before single level next) (moves steps single level next).1;
      done = λ steps next.
          let before : 0 < q.search.budget.steps = omega (arith, steps, c.apply_at.ensures.spent.1) in
          rest_more subs lookup t (now_of s p) (now_of b q) (now_of new r) c.go_on.result (c.loop-turn.invariant.done before next)
          (under steps next) on;
    }

pub returns-then-lookahead_len-eq0-clause-rest : goal.returns-then-lookahead_len-eq0-clause-rest
returns-then-lookahead_len-eq0-clause-rest c = λ steps next.
    let b = c.loop-turn.buffer in
    rest_ended c.args.substitutions.now c.args.applied.now.lookup.now c.loop-turn._turn (now_of c.args.buffer.now c.args.progress.now)
    (now_of b c.loop-turn.progress) (c.loop-turn.invariant.done steps next)
    (inl (omega (arith, c.if-lookahead_len-eq0.true, c.lookahead_len.ensures, lookahead_len-opened b c.loop-turn.invariant.opened)))

pub returns-in_err-step-clause-rest : goal.returns-in_err-step-clause-rest
returns-in_err-step-clause-rest c = λ steps next.
    let s = c.args.buffer.now in
    let p = c.args.progress.now in
    let subs = c.args.substitutions.now in
    let lookup = c.args.applied.now.lookup.now in
    let b = c.loop-turn.buffer in
    let q = c.loop-turn.progress in
    let t = c.loop-turn._turn in
    let mid = c.apply_at.new.buffer in
    let r = c.apply_at.new.progress in
    let some : 0 < length b.input =
    omega (arith, c.if-lookahead_len-eq0.false, c.lookahead_len.ensures, lookahead_len-opened b c.loop-turn.invariant.opened) in
    let before : 0 < q.search.budget.steps = omega (arith, steps, c.apply_at.ensures.spent.1) in
    let m = c.loop-turn.invariant.done before next in
    let failed = c.from_residual.ensures.0 in
    rest_by_error subs lookup t (now_of s p) (now_of b q) (now_of mid r) c.from_residual.result m failed
    (turn_failed subs lookup (now_of b q) (now_of mid r) some (m.next some) _ c.from_residual.result failed
    (subst (λ (x : Result Step AllocError). IsTurnAt 64 subs lookup (now_of b q) x (now_of mid r)) c.in_err-step.was
    (c.apply_at.ensures.turn steps)))

pub returns-in-None-clause-rest : goal.returns-in-None-clause-rest
returns-in-None-clause-rest c = λ steps next.
    let s = c.args.buffer.now in
    let p = c.args.progress.now in
    let subs = c.args.substitutions.now in
    let lookup = c.args.applied.now.lookup.now in
    let b = c.loop-turn.buffer in
    let q = c.loop-turn.progress in
    let t = c.loop-turn._turn in
    let mid = c.apply_at.new.buffer in
    let r = c.apply_at.new.progress in
    let some : 0 < length b.input =
    omega (arith, c.if-lookahead_len-eq0.false, c.lookahead_len.ensures, lookahead_len-opened b c.loop-turn.invariant.opened) in
    let before : 0 < q.search.budget.steps = omega (arith, steps, c.apply_at.ensures.spent.1) in
    let m = c.loop-turn.invariant.done before next in
    let refused = refused_by c.in_ok-step.step (sym c.passed.ensures ∙ c.in-None.is) in
    rest_refused subs lookup t (now_of s p) (now_of b q) (now_of mid r) (Ok false) m
    (turn_refused subs lookup (now_of b q) (now_of mid r) some (m.next some)
    (subst (λ (x : Result Step AllocError). IsTurnAt 64 subs lookup (now_of b q) x (now_of mid r))
    (c.in_ok-step.was ∙ ap (λ (x : Step). Ok x) refused) (c.apply_at.ensures.turn steps)))
    (now_of mid r) refl

pub returns-in_err-go_on-clause-rest : goal.returns-in_err-go_on-clause-rest
returns-in_err-go_on-clause-rest c = λ steps next.
    let s = c.args.buffer.now in
    let p = c.args.progress.now in
    let subs = c.args.substitutions.now in
    let lookup = c.args.applied.now.lookup.now in
    let b = c.loop-turn.buffer in
    let q = c.loop-turn.progress in
    let t = c.loop-turn._turn in
    let mid = c.apply_at.new.buffer in
    let r = c.apply_at.new.progress in
    let new = c.go_on.new.buffer in
    let was : c.apply_at.result ≡ Ok c.in_ok-step.step = c.in_ok-step.was in
    let is : passed_by c.in_ok-step.step ≡ Some c.in-Some.passed = sym c.passed.ensures ∙ c.in-Some.is in
    let some : 0 < length b.input =
    omega (arith, c.if-lookahead_len-eq0.false, c.lookahead_len.ensures, lookahead_len-opened b c.loop-turn.invariant.opened) in
    let under : 0 < r.search.budget.steps → IsForNext subs lookup s
    → IsUnderWay subs lookup 1 (now_of b q) c.go_on.result (now_of new r) =
    (λ steps next.
    let before : 0 < q.search.budget.steps = omega (arith, steps, c.apply_at.ensures.spent.1) in
    let m = c.loop-turn.invariant.done before next in
    after_step subs lookup (now_of b q) (now_of mid r) c.in_ok-step.step c.in-Some.passed c.go_on.result new some (m.next some) is
    (subst (λ (x : Result Step AllocError). IsTurnAt 64 subs lookup (now_of b q) x (now_of mid r)) was (c.apply_at.ensures.turn steps))
    c.in_ok-step.ensures.left
    (λ passed. omega (arith, some, c.apply_at.ensures.same_length (was ∙ ap (λ (x : Step). Ok x) passed)))
    (c.go_on.ensures.on, c.go_on.ensures.wants)) in
    let before : 0 < q.search.budget.steps = omega (arith, steps, c.apply_at.ensures.spent.1) in
    rest_failed subs lookup t (now_of s p) (now_of b q) (now_of new r) c.go_on.result (c.loop-turn.invariant.done before next)
    (under steps next) _ c.from_residual-in_err-go_on.result (now_of new r) c.in_err-go_on.was
    c.from_residual-in_err-go_on.ensures.0

pub returns-then-not-branch-clause-rest : goal.returns-then-not-branch-clause-rest
returns-then-not-branch-clause-rest c = λ steps next.
    let s = c.args.buffer.now in
    let p = c.args.progress.now in
    let subs = c.args.substitutions.now in
    let lookup = c.args.applied.now.lookup.now in
    let b = c.loop-turn.buffer in
    let q = c.loop-turn.progress in
    let t = c.loop-turn._turn in
    let mid = c.apply_at.new.buffer in
    let r = c.apply_at.new.progress in
    let new = c.go_on.new.buffer in
    let was : c.apply_at.result ≡ Ok c.in_ok-step.step = c.in_ok-step.was in
    let is : passed_by c.in_ok-step.step ≡ Some c.in-Some.passed = sym c.passed.ensures ∙ c.in-Some.is in
    let some : 0 < length b.input =
    omega (arith, c.if-lookahead_len-eq0.false, c.lookahead_len.ensures, lookahead_len-opened b c.loop-turn.invariant.opened) in
    let under : 0 < r.search.budget.steps → IsForNext subs lookup s
    → IsUnderWay subs lookup 1 (now_of b q) c.go_on.result (now_of new r) =
    (λ steps next.
    let before : 0 < q.search.budget.steps = omega (arith, steps, c.apply_at.ensures.spent.1) in
    let m = c.loop-turn.invariant.done before next in
    after_step subs lookup (now_of b q) (now_of mid r) c.in_ok-step.step c.in-Some.passed c.go_on.result new some (m.next some) is
    (subst (λ (x : Result Step AllocError). IsTurnAt 64 subs lookup (now_of b q) x (now_of mid r)) was (c.apply_at.ensures.turn steps))
    c.in_ok-step.ensures.left
    (λ passed. omega (arith, some, c.apply_at.ensures.same_length (was ∙ ap (λ (x : Step). Ok x) passed)))
    (c.go_on.ensures.on, c.go_on.ensures.wants)) in
    let before : 0 < q.search.budget.steps = omega (arith, steps, c.apply_at.ensures.spent.1) in
    rest_refused subs lookup t (now_of s p) (now_of b q) (now_of new r) c.go_on.result (c.loop-turn.invariant.done before next)
    (under steps next) (now_of new r) (c.in_ok-go_on.was ∙ ap (λ (d : Bool). Ok d) c.if-not-branch.true)

pub returns-in_err-step-clause-singles : goal.returns-in_err-step-clause-singles
returns-in_err-step-clause-singles c = λ steps single level next.
    let s = c.args.buffer.now in
    let p = c.args.progress.now in
    let subs = c.args.substitutions.now in
    let lookup = c.args.applied.now.lookup.now in
    let b = c.loop-turn.buffer in
    let q = c.loop-turn.progress in
    let t = c.loop-turn._turn in
    let mid = c.apply_at.new.buffer in
    let r = c.apply_at.new.progress in
    let some : 0 < length b.input =
    omega (arith, c.if-lookahead_len-eq0.false, c.lookahead_len.ensures, lookahead_len-opened b c.loop-turn.invariant.opened) in
    let before : 0 < q.search.budget.steps = omega (arith, steps, c.apply_at.ensures.spent.1) in
    let m = c.loop-turn.invariant.moves before single level next in
    absurd (no_error subs lookup b mid _
    (leads_by_turn subs lookup b q c.apply_at.result _ (now_of mid r) (level_moved subs lookup t s b level m)
    (single_moved subs lookup t s b single m) (next_moved subs lookup t s b m) some c.in_err-step.was (c.apply_at.ensures.turn steps)))

pub returns-in-None-clause-singles : goal.returns-in-None-clause-singles
returns-in-None-clause-singles c = λ steps single level next.
    let s = c.args.buffer.now in
    let p = c.args.progress.now in
    let subs = c.args.substitutions.now in
    let lookup = c.args.applied.now.lookup.now in
    let b = c.loop-turn.buffer in
    let q = c.loop-turn.progress in
    let t = c.loop-turn._turn in
    let mid = c.apply_at.new.buffer in
    let r = c.apply_at.new.progress in
    let some : 0 < length b.input =
    omega (arith, c.if-lookahead_len-eq0.false, c.lookahead_len.ensures, lookahead_len-opened b c.loop-turn.invariant.opened) in
    let before : 0 < q.search.budget.steps = omega (arith, steps, c.apply_at.ensures.spent.1) in
    let m = c.loop-turn.invariant.moves before single level next in
    absurd (is_not_refused subs lookup b q c.apply_at.result c.in_ok-step.step (now_of mid r) (level_moved subs lookup t s b level m)
    (single_moved subs lookup t s b single m) (next_moved subs lookup t s b m) some c.in_ok-step.was
    (sym c.passed.ensures ∙ c.in-None.is) (c.apply_at.ensures.turn steps))

pub returns-in_err-go_on-clause-singles : goal.returns-in_err-go_on-clause-singles
returns-in_err-go_on-clause-singles c = λ steps single level next.
    let s = c.args.buffer.now in
    let p = c.args.progress.now in
    let subs = c.args.substitutions.now in
    let lookup = c.args.applied.now.lookup.now in
    let b = c.loop-turn.buffer in
    let q = c.loop-turn.progress in
    let t = c.loop-turn._turn in
    let mid = c.apply_at.new.buffer in
    let r = c.apply_at.new.progress in
    let new = c.go_on.new.buffer in
    let was : c.apply_at.result ≡ Ok c.in_ok-step.step = c.in_ok-step.was in
    let is : passed_by c.in_ok-step.step ≡ Some c.in-Some.passed = sym c.passed.ensures ∙ c.in-Some.is in
    let some : 0 < length b.input =
    omega (arith, c.if-lookahead_len-eq0.false, c.lookahead_len.ensures, lookahead_len-opened b c.loop-turn.invariant.opened) in
    let moves : 0 < r.search.budget.steps → IsSingle subs lookup s → IsLevel s → IsForNext subs lookup s
    → (c.go_on.result ≡ Ok true) × HasMoved subs lookup 1 b new =
    (λ steps single level next.
    let before : 0 < q.search.budget.steps = omega (arith, steps, c.apply_at.ensures.spent.1) in
    let m = c.loop-turn.invariant.moves before single level next in
    moved_by_step subs lookup b q c.apply_at.result c.in_ok-step.step c.in-Some.passed (now_of mid r) c.go_on.result new
    (level_moved subs lookup t s b level m) (single_moved subs lookup t s b single m) (next_moved subs lookup t s b m) some was is
    (c.apply_at.ensures.turn steps) c.go_on.ensures.in_place c.go_on.ensures.on) in
    absurd (err_is_no_answer c.go_on.result _ (moves steps single level next).0 c.in_err-go_on.was)

pub returns-then-not-branch-clause-singles : goal.returns-then-not-branch-clause-singles
returns-then-not-branch-clause-singles c = λ steps single level next.
    let s = c.args.buffer.now in
    let p = c.args.progress.now in
    let subs = c.args.substitutions.now in
    let lookup = c.args.applied.now.lookup.now in
    let b = c.loop-turn.buffer in
    let q = c.loop-turn.progress in
    let t = c.loop-turn._turn in
    let mid = c.apply_at.new.buffer in
    let r = c.apply_at.new.progress in
    let new = c.go_on.new.buffer in
    let was : c.apply_at.result ≡ Ok c.in_ok-step.step = c.in_ok-step.was in
    let is : passed_by c.in_ok-step.step ≡ Some c.in-Some.passed = sym c.passed.ensures ∙ c.in-Some.is in
    let some : 0 < length b.input =
    omega (arith, c.if-lookahead_len-eq0.false, c.lookahead_len.ensures, lookahead_len-opened b c.loop-turn.invariant.opened) in
    let moves : 0 < r.search.budget.steps → IsSingle subs lookup s → IsLevel s → IsForNext subs lookup s
    → (c.go_on.result ≡ Ok true) × HasMoved subs lookup 1 b new =
    (λ steps single level next.
    let before : 0 < q.search.budget.steps = omega (arith, steps, c.apply_at.ensures.spent.1) in
    let m = c.loop-turn.invariant.moves before single level next in
    moved_by_step subs lookup b q c.apply_at.result c.in_ok-step.step c.in-Some.passed (now_of mid r) c.go_on.result new
    (level_moved subs lookup t s b level m) (single_moved subs lookup t s b single m) (next_moved subs lookup t s b m) some was is
    (c.apply_at.ensures.turn steps) c.go_on.ensures.in_place c.go_on.ensures.on) in
    absurd (false_is_no_answer c.go_on.result (moves steps single level next).0
    (c.in_ok-go_on.was ∙ ap (λ (d : Bool). Ok d) c.if-not-branch.true))

pub returns-clause-rest : goal.returns-clause-rest
returns-clause-rest c = λ steps next.
    let s = c.args.buffer.now in
    let all : len s ≡ s.idx + length s.input = cond-true _ _ _ c.requires.opened in
    rest_ended c.args.substitutions.now c.args.applied.now.lookup.now c.loop-turn._turn (now_of s c.args.progress.now)
    (now_of c.loop-turn.buffer c.loop-turn.progress) (c.loop-turn.invariant.done steps next)
    (inr (omega (arith, c.loop-turn-test.false, c.len-count.ensures.len, all)))

pub returns-then-lookahead_len-eq0-clause-tells : goal.returns-then-lookahead_len-eq0-clause-tells
returns-then-lookahead_len-eq0-clause-tells c = λ is. c.loop-turn.invariant.tells

pub returns-then-is_spent-clause-tells : goal.returns-then-is_spent-clause-tells
returns-then-is_spent-clause-tells c = λ is. c.loop-turn.invariant.tells

pub returns-in_err-step-clause-tells : goal.returns-in_err-step-clause-tells
returns-in_err-step-clause-tells c = λ is.
    absurd (error_is_no_answer c.from_residual.result is c.from_residual.ensures.0)

pub returns-in-None-clause-tells : goal.returns-in-None-clause-tells
returns-in-None-clause-tells c = λ is. absurd (false_is_no_answer (Ok false) is refl)

pub returns-in_err-go_on-clause-tells : goal.returns-in_err-go_on-clause-tells
returns-in_err-go_on-clause-tells c = λ is.
    absurd (error_is_no_answer c.from_residual-in_err-go_on.result is c.from_residual-in_err-go_on.ensures.0)

pub returns-then-not-branch-clause-tells : goal.returns-then-not-branch-clause-tells
returns-then-not-branch-clause-tells c = λ is. absurd (false_is_no_answer (Ok false) is refl)

pub returns-clause-tells : goal.returns-clause-tells
returns-clause-tells c = λ is. c.loop-turn.invariant.tells
