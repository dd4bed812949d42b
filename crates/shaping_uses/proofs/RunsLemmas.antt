-- Lists of calls: a merge of the first two glyphs of a text, and a ligature of them.
use Rattle.std.proofs.Common.{◌≡◌, ℕ, zero, suc, ◌≤◌, ◌<◌, false, List, [], ◌∷◌, ◌++◌, take}
use Rattle.std.proofs.Common.{length, drop, not, refl, sym, ap, subst, ◌∙◌, arith}
use Rattle.std.specs.Borrow.{Bor}
use Rattle.std.proofs.lemmas.Bool.{cond-true, cond-false, false≢true, le-leb, lt-leb, not_from_false}
use Rattle.shaping_buffer.specs.State.{State}
use Rattle.shaping_buffer.specs.Step.{clear_output}
use Rattle.shaping_buffer.specs.ClusterStep.{is_input_range}
use Rattle.shaping_runs.specs.declared.call.Call.{Call}
use Rattle.shaping_runs.specs.declared.call.Call.TheVariants.{ClearOutput, MergeClusters, ReplaceGlyphs, Sync}
use Rattle.shaping_runs.specs.declared.call.Answer.{Answer}
use Rattle.shaping_runs.specs.declared.call.Answer.TheVariants.{Outside, Done}
use Rattle.shaping_runs.specs.Exceptions.{NoGlyphIsAdded}
use Rattle.shaping_runs.specs.Replay.{Turn, answers_of, turn, StopsAt}
use Rattle.shaping_runs.specs.Separation.{IsInPlace}
use Rattle.shaping_runs.proofs.InPlaceLaws.{never_stops}
use Rattle.shaping_runs.proofs.InPlaceSteps.{stays_in_place}

-- the calls with a slice that holds the ligature
abbrev pub calls_with : Bor (List ℕ) → List Call
calls_with ids = ClearOutput ∷ ReplaceGlyphs 2 1 ids ∷ Sync ∷ []

-- ---- where they stop

state-clear_output : (s : State) → s.have_output ≡ false → (turn ClearOutput s).state ≡ clear_output s
state-clear_output s closed =
    ap (λ (t : Turn). t.state) (cond-true (not s.have_output) _ _ (not_from_false s.have_output closed))

opened_in_place : (s : State) → IsInPlace (clear_output s)
opened_in_place s = record { together = refl; near = omega arith; closed = λ e. cc }

-- in an output that was just opened no list of calls stops in which none puts out more than it reads
pub opened_never_stops : (calls : List Call) (s : State) → s.have_output ≡ false
    → ((t : State) → NoGlyphIsAdded calls t) → (at : ℕ) (before : List Answer) (new : State) (answers : List Answer)
    → StopsAt at (ClearOutput ∷ calls) s before new answers → ⊥
opened_never_stops calls s closed none zero before new answers stop =
    absurd (false≢true (sym closed ∙ ap (λ (t : State). t.have_output) (sym stop.state) ∙ stop.due.0.0))
opened_never_stops calls s closed none (suc at) before new answers stop =
    let first = (turn ClearOutput s).state in
    let here : IsInPlace first = subst IsInPlace (sym (state-clear_output s closed)) (opened_in_place s) in
    never_stops calls first (stays_in_place calls first (none first) here) at [] new
    (answers_of (take at calls) first ++ drop at []) (record {
      within = omega (arith, stop.within);
      due = stop.due;
      state = stop.state;
      told = refl;
    })

-- ---- a merge of the first two characters of a text

pub answers_of-merge : (s : State) → s.have_output ≡ false → 2 ≤ length s.input
    → answers_of (MergeClusters 0 2 ∷ []) s ≡ Done ∷ []
answers_of-merge s closed two =
    ap (λ (t : Turn). t.answer ∷ [])
    (cond-true (is_input_range 0 2 s) _ _ (rw (closed, le-leb 2 (length s.input) two) refl))

pub answers_of-merge_outside : (s : State) → s.have_output ≡ false → length s.input < 2
    → answers_of (MergeClusters 0 2 ∷ []) s ≡ Outside ∷ []
answers_of-merge_outside s closed few =
    ap (λ (t : Turn). t.answer ∷ [])
    (cond-false (is_input_range 0 2 s) _ _ (rw (closed, lt-leb 2 (length s.input) few) refl))
