-- Where no output is separate along a list of calls, none of them runs out of memory.
use Rattle.std.proofs.Common.{◌≡◌, ℕ, zero, suc, ◌<◌, true, false, ◌||◌, List, [], ◌∷◌, length, take, sym, ap, ◌∙◌}
use Rattle.std.proofs.Common.{subst, arith}
use Rattle.std.specs.Prelude.{slice_get, IfSome}
use Rattle.std.proofs.lemmas.Bool.{cond_both, false≢true}
use Rattle.shaping_buffer.specs.State.{State}
use Rattle.shaping_runs.specs.declared.call.Call.{Call}
use Rattle.shaping_runs.specs.declared.call.Answer.{Answer}
use Rattle.shaping_runs.specs.declared.call.Answer.TheVariants.{Done, Outside}
use Rattle.shaping_runs.specs.Replay.{Turn, turn, after, may_be_made, outcome_of, MayStop, StopsAt}
use Rattle.shaping_runs.specs.Separation.{StaysInPlace}

outside_is_not_done : Outside ≡ Done → ⊥
outside_is_not_done e = cc

before_in_place : (calls : List Call) (s : State) → StaysInPlace calls s → s.have_separate_output ≡ false
before_in_place [] s stays = stays
before_in_place (call ∷ calls) s stays = stays.0

pub call_never_stops : (call : Call) (s : State) → s.have_separate_output ≡ false
    → (turn call s).state.have_separate_output ≡ false → MayStop call s → ⊥
call_never_stops call s old new stop =
    cond_both (may_be_made call s) _ _ (λ (t : Turn). t.state.have_separate_output ≡ false → t.answer ≡ Done → ⊥)
    (λ _ then_in_place _. let separate : (false || false)
    ≡ true = sym (ap (λ b. b || (outcome_of call s).state.have_separate_output) old ∙ then_in_place) ∙ stop.0.1 in
    absurd (false≢true separate))
    (λ _ _ done. outside_is_not_done done)
    new stop.1

stops_nowhere : (calls : List Call) (s : State) → StaysInPlace calls s → (at : ℕ) (new : State) → at < length calls
    → new ≡ after (take at calls) s
    → IfSome (slice_get calls at) (λ call. MayStop call new) → ⊥
stops_nowhere [] s stays at new within is due = absurd (omega (arith, within))
stops_nowhere (call ∷ calls) s stays zero new within is due =
    call_never_stops call s stays.0 (before_in_place calls (turn call s).state stays.1) (subst (MayStop call) is due)
stops_nowhere (call ∷ calls) s stays (suc at) new within is due =
    stops_nowhere calls (turn call s).state stays.1 at new (omega (arith, within)) is due

pub never_stops : (calls : List Call) (s : State) → StaysInPlace calls s
    → (at : ℕ) (before : List Answer) (new : State) (answers : List Answer)
    → StopsAt at calls s before new answers → ⊥
never_stops calls s stays at before new answers stop =
    stops_nowhere calls s stays at new stop.within stop.state stop.due
