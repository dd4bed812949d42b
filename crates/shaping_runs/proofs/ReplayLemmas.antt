-- One more call, at the end of a list of calls.
use Rattle.std.proofs.Common.{◌≡◌, ℕ, suc, ◌+◌, ◌<◌, List, [], ◌∷◌, ◌++◌, length, take, drop, get_or, refl, ap, sym}
use Rattle.std.proofs.Common.{◌∙◌, arith, add-one, append_assoc, length-take}
use Rattle.std.proofs.Math.ListN.{set}
use Rattle.std.proofs.Math.Seq.{drop-cons}
use Rattle.std.proofs.lemmas.List.{take_more}
use Rattle.shaping_runs.specs.declared.call.Call.{Call}
use Rattle.shaping_runs.specs.declared.call.Answer.{Answer}
use Rattle.shaping_buffer.specs.State.{State}
use Rattle.shaping_runs.specs.Replay.{turn, after, answers_of}

pub after-push : (calls : List Call) (call : Call) (s : State)
    → after (calls ++ call ∷ []) s ≡ (turn call (after calls s)).state
after-push [] call s = refl
after-push (c ∷ calls) call s = after-push calls call (turn c s).state

pub answers_of-push : (calls : List Call) (call : Call) (s : State)
    → answers_of (calls ++ call ∷ []) s ≡ answers_of calls s ++ (turn call (after calls s)).answer ∷ []
answers_of-push [] call s = refl
answers_of-push (c ∷ calls) call s = ap (λ l. (turn c s).answer ∷ l) (answers_of-push calls call (turn c s).state)

pub length-answers_of : (calls : List Call) (s : State) → length (answers_of calls s) ≡ length calls
length-answers_of [] s = refl
length-answers_of (c ∷ calls) s = ap suc (length-answers_of calls (turn c s).state)

set_at : {X : Type 0} (front rest : List X) (y a : X) → set (front ++ y ∷ rest) (length front) a ≡ front ++ a ∷ rest
set_at [] rest y a = refl
set_at (x ∷ front) rest y a = ap (λ l. x ∷ l) (set_at front rest y a)

-- what was told, and then a, and the rest as before
set_more : (front before : List Answer) (i : ℕ) (a d : Answer) → length front ≡ i → i < length before
    → set (front ++ drop i before) i a ≡ (front ++ a ∷ []) ++ drop (i + 1) before
set_more front before i a d n h =
    ap (λ l. set (front ++ l) i a) (drop-cons before i d h)
    ∙ ap (λ k. set (front ++ get_or before i d ∷ drop (suc i) before) k a) (sym n)
    ∙ set_at front (drop (suc i) before) (get_or before i d) a
    ∙ sym (append_assoc front (a ∷ []) (drop (suc i) before))
    ∙ ap (λ k. (front ++ a ∷ []) ++ drop k before) (sym (add-one i))

pub record Told (calls : List Call) (i : ℕ) (old : State) (before : List Answer) (new : State)
    (answers : List Answer) : Type 0 where
  pub state : new ≡ after (take i calls) old
  pub told : answers ≡ answers_of (take i calls) old ++ drop i before

pub told_more : (calls : List Call) (i : ℕ) (d : Call) (old mid new : State) (before answers : List Answer) (a : Answer)
    → i < length calls → length before ≡ length calls
    → mid ≡ after (take i calls) old → answers ≡ answers_of (take i calls) old ++ drop i before
    → a ≡ (turn (get_or calls i d) mid).answer → new ≡ (turn (get_or calls i d) mid).state
    → Told calls (i + 1) old before new (set answers i a)
told_more calls i d old mid new before answers a h same m t is gives =
    let more = take_more calls i d h in
    let front : length (answers_of (take i calls) old) ≡ i =
    omega (arith, length-answers_of (take i calls) old, length-take i calls) in
    record {
      state = gives ∙ ap (λ s. (turn (get_or calls i d) s).state) m
          ∙ sym (after-push (take i calls) (get_or calls i d) old) ∙ ap (λ cs. after cs old) (sym more);
      told = ap (λ l. set l i a) t ∙ set_more (answers_of (take i calls) old) before i a a front (omega arith)
          ∙ ap (λ x. (answers_of (take i calls) old ++ x ∷ []) ++ drop (i + 1) before)
          (is ∙ ap (λ s. (turn (get_or calls i d) s).answer) m)
          ∙ ap (λ l. l ++ drop (i + 1) before) (sym (answers_of-push (take i calls) (get_or calls i d) old)
          ∙ ap (λ cs. answers_of cs old) (sym more));
    }
