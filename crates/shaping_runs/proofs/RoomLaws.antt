-- Where the sides stay within the room along a list of calls, none of them runs out of memory.
use Rattle.std.proofs.Common.{◌≡◌, ℕ, zero, suc, ◌<◌, ◌≤◌, true, List, [], ◌∷◌, length, take, subst, sym}
use Rattle.std.proofs.Common.{inl, inr, arith, leb}
use Rattle.std.specs.Prelude.{slice_get, IfSome}
use Rattle.std.proofs.lemmas.Bool.{cond_both, false≢true}
use Rattle.shaping_buffer.specs.State.{State}
use Rattle.shaping_buffer.specs.Step.{Outcome, Grows, ensure}
use Rattle.shaping_runs.specs.declared.call.Call.{Call}
use Rattle.shaping_runs.specs.declared.call.Answer.{Answer}
use Rattle.shaping_runs.specs.declared.call.Answer.TheVariants.{Done, Outside}
use Rattle.shaping_runs.specs.Replay.{Turn, turn, after, may_be_made, outcome_of, MayStop, StopsAt}
use Rattle.shaping_runs.specs.Room.{IsWithin, StaysWithin}
use Rattle.shaping_runs.proofs.Settings.{room-turn}

outside_is_not_done : Outside ≡ Done → ⊥
outside_is_not_done e = cc

within_after : (n : ℕ) (calls : List Call) (s : State) → StaysWithin n calls s → IsWithin n s
within_after n [] s stays = stays
within_after n (call ∷ calls) s stays = stays.0

-- sides that have room do not grow past it
no_growth : (n : ℕ) (before after : State) → n ≤ before.room → IsWithin n after → Grows before after → ⊥
no_growth n before after room within (inl out) = absurd (omega (arith, room, within.0, out.1))
no_growth n before after room within (inr input) = absurd (omega (arith, room, within.1, input.1))

call_never_stops : (n : ℕ) (call : Call) (s : State) → n ≤ s.room → IsWithin n (turn call s).state → MayStop call s → ⊥
call_never_stops n call s room within stop =
    cond_both (may_be_made call s) _ _ (λ (t : Turn). IsWithin n t.state → t.answer ≡ Done → ⊥)
    (λ _ fits _. no_growth n s (outcome_of call s).state room fits stop.0.2)
    (λ _ _ done. outside_is_not_done done)
    within stop.1

stops_nowhere : (n : ℕ) (calls : List Call) (s : State) → n ≤ s.room → StaysWithin n calls s → (at : ℕ) (new : State)
    → at < length calls → new ≡ after (take at calls) s
    → IfSome (slice_get calls at) (λ call. MayStop call new) → ⊥
stops_nowhere n [] s room stays at new within is due = absurd (omega (arith, within))
stops_nowhere n (call ∷ calls) s room stays zero new within is due =
    call_never_stops n call s room (within_after n calls (turn call s).state stays.1) (subst (MayStop call) is due)
stops_nowhere n (call ∷ calls) s room stays (suc at) new within is due =
    stops_nowhere n calls (turn call s).state (subst (λ m. n ≤ m) (sym (room-turn call s)) room) stays.1 at new
    (omega (arith, within)) is due

pub never_stops : (n : ℕ) (calls : List Call) (s : State) → n ≤ s.room → StaysWithin n calls s
    → (at : ℕ) (before : List Answer) (new : State) (answers : List Answer)
    → StopsAt at calls s before new answers → ⊥
never_stops n calls s room stays at before new answers stop =
    stops_nowhere n calls s room stays at new stop.within stop.state stop.due

ensured : (n : ℕ) (s : State) → (ensure n s).done ≡ true → n ≤ (ensure n s).state.room
ensured n s = cond_both (leb n s.max_len) _ _ (λ (o : Outcome). o.done ≡ true → n ≤ o.state.room)
    (λ _ _. omega arith)
    (λ _ done. absurd (false≢true done))

pub ensured_never_stops : (n : ℕ) (calls : List Call) (s : State) → (ensure n s).done ≡ true
    → StaysWithin n calls (ensure n s).state
    → (at : ℕ) (before : List Answer) (new : State) (answers : List Answer)
    → StopsAt at calls (ensure n s).state before new answers → ⊥
ensured_never_stops n calls s done stays = never_stops n calls (ensure n s).state (ensured n s done) stays
