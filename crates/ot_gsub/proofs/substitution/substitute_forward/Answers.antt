use Rattle.std.proofs.Common.{◌≡◌, Ok, Bool, true, false, ap, length, sym, subst, refl, ◌∙◌}
use Rattle.shaping_buffer.specs.State.{State}
use Rattle.shaping_buffer.specs.Step.{Meets, sync}
use Rattle.ot_lookups.specs.declared.lookup_list.Lookup.{Lookup}
use Rattle.ot_gsub.specs.Nested.{now_of}
use Rattle.ot_gsub.specs.Runs.{IsRestDone}
use Rattle.ot_gsub.specs.Singles.{IsForNext, IsLevel, IsSingle, moved, substituted}
use Rattle.ot_gsub.proofs.ChangesLemmas.{error_is_no_answer, glyph_numbers-opened_at, glyph_numbers-sync, tells_passed, tells_then}
use Rattle.ot_gsub.proofs.ForwardLemmas.{forward_ended, forward_failed, forward_refused}
use Rattle.ot_gsub.proofs.SinglesLemmas.{err_is_no_answer, false_is_no_answer, rest_moved, synced}
use Rattle.ot_gsub.proofs.substitution.substitute_forward.Goals as goal

pub returns-in_err-substitute_rest-clause-singles : goal.returns-in_err-substitute_rest-clause-singles
returns-in_err-substitute_rest-clause-singles c = λ steps good single.
    let subs = c.args.substitutions.now in
    let b = c.open_at.new.buffer in
    let singles = subst
    (λ (l : Lookup). IsSingle subs l b → IsLevel b → IsForNext subs l b → (c.substitute_rest.result ≡ Ok true)
    × (c.substitute_rest.new.buffer ≡ moved (substituted subs l) (length b.input) b))
    c.new-applied.ensures.lookup (c.substitute_rest.ensures.singles steps) in
    let done = rest_moved c.args.substitutions.now c.args.lookup.now c.args.first c.args.buffer.now c.open_at.new.buffer
    c.substitute_rest.result c.substitute_rest.new.buffer c.open_at.ensures.opened.1 c.requires.closed c.len.ensures.within
    c.requires.first c.requires.at single singles in
    absurd (err_is_no_answer c.substitute_rest.result _ done.0 c.in_err-substitute_rest.was)

pub returns-then-not-branch-2-clause-singles : goal.returns-then-not-branch-2-clause-singles
returns-then-not-branch-2-clause-singles c = λ steps good single.
    let subs = c.args.substitutions.now in
    let b = c.open_at.new.buffer in
    let singles = subst
    (λ (l : Lookup). IsSingle subs l b → IsLevel b → IsForNext subs l b → (c.substitute_rest.result ≡ Ok true)
    × (c.substitute_rest.new.buffer ≡ moved (substituted subs l) (length b.input) b))
    c.new-applied.ensures.lookup (c.substitute_rest.ensures.singles steps) in
    let done = rest_moved c.args.substitutions.now c.args.lookup.now c.args.first c.args.buffer.now c.open_at.new.buffer
    c.substitute_rest.result c.substitute_rest.new.buffer c.open_at.ensures.opened.1 c.requires.closed c.len.ensures.within
    c.requires.first c.requires.at single singles in
    absurd (false_is_no_answer c.substitute_rest.result done.0
    (c.in_ok-substitute_rest.was ∙ ap (λ (x : Bool). Ok x) c.if-not-branch-2.true))

pub returns-clause-singles : goal.returns-clause-singles
returns-clause-singles c = λ steps good single.
    let subs = c.args.substitutions.now in
    let b = c.open_at.new.buffer in
    let singles = subst
    (λ (l : Lookup). IsSingle subs l b → IsLevel b → IsForNext subs l b → (c.substitute_rest.result ≡ Ok true)
    × (c.substitute_rest.new.buffer ≡ moved (substituted subs l) (length b.input) b))
    c.new-applied.ensures.lookup (c.substitute_rest.ensures.singles steps) in
    let done = rest_moved c.args.substitutions.now c.args.lookup.now c.args.first c.args.buffer.now c.open_at.new.buffer
    c.substitute_rest.result c.substitute_rest.new.buffer c.open_at.ensures.opened.1 c.requires.closed c.len.ensures.within
    c.requires.first c.requires.at single singles in
    let end = c.fail_if_spent.ensures.same steps ∙ done.1 in
    synced c.args.substitutions.now c.args.lookup.now c.args.first c.args.buffer.now c.fail_if_spent.new.buffer c.sync.new.self
    c.sync.result c.requires.passed c.requires.closed
    (sym c.have_separate_output.ensures.is ∙ c.have_separate_output.ensures.closed c.requires.closed)
    (c.out_len.ensures.closed c.requires.closed) good end
    (c.sync.ensures.in_place (ap (λ (o : State). o.have_separate_output) end)) c.sync.ensures.meets

pub returns-in_err-substitute_rest-clause-run : goal.returns-in_err-substitute_rest-clause-run
returns-in_err-substitute_rest-clause-run c = λ steps.
    let end = now_of c.substitute_rest.new.buffer c.substitute_rest.new.progress in
    let subs = c.args.substitutions.now in
    let b = c.open_at.new.buffer in
    let rest = subst
    (λ (l : Lookup). IsForNext subs l b → IsRestDone subs l (now_of b c.args.progress.now) c.substitute_rest.result end)
    c.new-applied.ensures.lookup (c.substitute_rest.ensures.rest steps) in
    forward_failed c.args.substitutions.now c.args.lookup.now (now_of c.args.buffer.now c.args.progress.now) c.args.first
    c.open_at.new.buffer c.open_at.ensures.opened.1 c.requires.closed c.len.ensures.within c.requires.first c.requires.passed
    c.requires.at c.substitute_rest.result end rest _
    c.from_residual-in_err-substitute_rest.result end c.in_err-substitute_rest.was
    c.from_residual-in_err-substitute_rest.ensures.0

pub returns-then-not-branch-2-clause-run : goal.returns-then-not-branch-2-clause-run
returns-then-not-branch-2-clause-run c = λ steps.
    let end = now_of c.substitute_rest.new.buffer c.substitute_rest.new.progress in
    let subs = c.args.substitutions.now in
    let b = c.open_at.new.buffer in
    let rest = subst
    (λ (l : Lookup). IsForNext subs l b → IsRestDone subs l (now_of b c.args.progress.now) c.substitute_rest.result end)
    c.new-applied.ensures.lookup (c.substitute_rest.ensures.rest steps) in
    forward_refused c.args.substitutions.now c.args.lookup.now (now_of c.args.buffer.now c.args.progress.now) c.args.first
    c.open_at.new.buffer c.open_at.ensures.opened.1 c.requires.closed c.len.ensures.within c.requires.first c.requires.passed
    c.requires.at c.substitute_rest.result end rest end
    (c.in_ok-substitute_rest.was ∙ ap (λ (x : Bool). Ok x) c.if-not-branch-2.true)

pub returns-clause-run : goal.returns-clause-run
returns-clause-run c = λ steps.
    let end = now_of c.substitute_rest.new.buffer c.substitute_rest.new.progress in
    let subs = c.args.substitutions.now in
    let b = c.open_at.new.buffer in
    let rest = subst
    (λ (l : Lookup). IsForNext subs l b → IsRestDone subs l (now_of b c.args.progress.now) c.substitute_rest.result end)
    c.new-applied.ensures.lookup (c.substitute_rest.ensures.rest steps) in
    forward_ended c.args.substitutions.now c.args.lookup.now (now_of c.args.buffer.now c.args.progress.now) c.args.first
    c.open_at.new.buffer c.open_at.ensures.opened.1 c.requires.closed c.len.ensures.within c.requires.first c.requires.passed
    c.requires.at c.substitute_rest.result end rest c.sync.result
    (now_of c.sync.new.self c.substitute_rest.new.progress)
    (c.in_ok-substitute_rest.was ∙ ap (λ (x : Bool). Ok x) c.if-not-branch-2.false)
    (subst (λ (t : State). Meets (sync t) t c.sync.result c.sync.new.self) (c.fail_if_spent.ensures.same steps)
    c.sync.ensures.meets) refl

pub returns-in_err-open_at-clause-tells : goal.returns-in_err-open_at-clause-tells
returns-in_err-open_at-clause-tells c = λ is.
    absurd (error_is_no_answer c.from_residual.result is c.from_residual.ensures.0)

pub returns-then-not-branch-clause-tells : goal.returns-then-not-branch-clause-tells
returns-then-not-branch-clause-tells c = λ is. absurd (false_is_no_answer (Ok false) is refl)

pub returns-in_err-substitute_rest-clause-tells : goal.returns-in_err-substitute_rest-clause-tells
returns-in_err-substitute_rest-clause-tells c = λ is.
    absurd (error_is_no_answer c.from_residual-in_err-substitute_rest.result is
    c.from_residual-in_err-substitute_rest.ensures.0)

pub returns-then-not-branch-2-clause-tells : goal.returns-then-not-branch-2-clause-tells
returns-then-not-branch-2-clause-tells c = λ is. absurd (false_is_no_answer (Ok false) is refl)

pub returns-clause-tells : goal.returns-clause-tells
returns-clause-tells c = λ is.
    let s = c.args.buffer.now in
    let b = c.open_at.new.buffer in
    let e = c.substitute_rest.new.buffer in
    let f = c.fail_if_spent.new.buffer in
    let new = c.sync.new.self in
    let told = c.args.progress.now.has_changed in
    let tells = c.substitute_rest.new.progress.has_changed in
    let start = tells_passed s b told told refl
    (glyph_numbers-opened_at c.args.first s b (c.out_len.ensures.closed c.requires.closed) c.open_at.ensures.opened.1) in
    let rest = c.substitute_rest.ensures.tells (c.in_ok-substitute_rest.was ∙ ap (λ (x : Bool). Ok x) c.if-not-branch-2.false) in
    tells_then s e new told tells tells (tells_then s b e told told tells start rest)
    (tells_passed e new tells tells refl (glyph_numbers-sync f c.sync.result new c.sync.ensures.meets is ∙ c.fail_if_spent.ensures.numbers))
