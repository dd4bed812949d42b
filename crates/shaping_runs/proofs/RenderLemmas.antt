-- Features set one after another, and calls made one by one until one is refused.
use Rattle.std.proofs.Common.{◌≡◌, ℕ, ◌+◌, ◌<◌, false, List, [], ◌∷◌, ◌++◌, length, take, get_or, refl, ap, sym, subst}
use Rattle.std.proofs.Common.{◌∙◌, arith, leb, length-append, length-take}
use Rattle.std.specs.Prelude.{◌≢◌}
use Rattle.std.specs.Str.{chars}
use Rattle.std.proofs.Math.ListN.{set}
use Rattle.std.proofs.lemmas.Bool.{cond_both}
use Rattle.std.proofs.lemmas.List.{take_more}
use Rattle.std.proofs.lemmas.List.Elements.{All-same, All-push}
use Rattle.std.proofs.lemmas.Option.{slice_get-get_or}
use Rattle.rb_text.specs.declared.feature.Feature.{Feature}
use Rattle.shaping_buffer.specs.Pushed.{pushed}
use Rattle.shaping_buffer.specs.State.{State}
use Rattle.shaping_buffer.specs.Step.{Outcome}
use Rattle.shaping_runs.specs.declared.call.Call.{Call}
use Rattle.shaping_runs.specs.declared.call.Answer.{Answer}
use Rattle.shaping_runs.specs.declared.call.Answer.TheVariants as answer
use Rattle.shaping_runs.specs.Replay.{turn, after, answers_of, MayStop}
use Rattle.shaping_runs.specs.Render.{with_feature, with_features, NoneRefused, RefusedAt, WantsMemoryAt}
use Rattle.shaping_runs.proofs.ReplayLemmas.{Told, told_more, answers_of-push}

-- ---- the text

-- a text that makes the list longer has a character
pub text_grows : (text : List ℕ) (s : State) → length s.input < length (pushed text s).state.input → 0 < length text
unfolding chars
text_grows [] s h =
    cond_both (leb (length (s.input ++ [])) s.max_len) _ _
    (λ (o : Outcome). length s.input < length o.state.input → 0 < 0)
    (λ _ longer. absurd (omega (arith, longer, length-append s.input [])))
    (λ _ longer. absurd (omega (arith, longer)))
    h
text_grows (b ∷ bs) s h = omega arith

-- ---- features

pub with_features-push : (k : ℕ) (fs : List Feature) (f : Feature) (s : State)
    → with_features k (fs ++ f ∷ []) s ≡ with_feature (k + length fs) f (with_features k fs s)
with_features-push k [] f s = ap (λ j. with_feature j f s) (omega arith)
with_features-push k (g ∷ fs) f s =
    with_features-push (k + 1) fs f (with_feature k g s)
    ∙ ap (λ j. with_feature j f (with_features (k + 1) fs (with_feature k g s))) (omega arith)

-- the features so far are set, and no output is open
pub record AreSet (features : List Feature) (i : ℕ) (old new : State) : Type 0 where
  pub state : new ≡ with_features 0 (take i features) old
  pub closed : new.have_output ≡ false

pub set_more : (features : List Feature) (i : ℕ) (d : Feature) (old mid new : State) → i < length features
    → AreSet features i old mid
    → new ≡ with_feature i (get_or features i d) mid → AreSet features (i + 1) old new
set_more features i d old mid new h before gives =
    let f = get_or features i d in
    let front : i ≡ 0 + length (take i features) = omega (arith, length-take i features) in
    record {
      state = gives ∙ ap (with_feature i f) before.state
          ∙ ap (λ j. with_feature j f (with_features 0 (take i features) old)) front
          ∙ sym (with_features-push 0 (take i features) f old)
          ∙ ap (λ fs. with_features 0 fs old) (sym (take_more features i d h));
      closed = ap (λ (s : State). s.have_output) gives ∙ before.closed;
    }

-- ---- calls

-- the calls so far were made and answered, and none was refused
pub record Unrefused (calls : List Call) (i : ℕ) (old : State) (before : List Answer) (new : State)
    (answers : List Answer) : Type 0 where
  pub told : Told calls i old before new answers
  pub unrefused : NoneRefused (take i calls) old

answer_is : (calls : List Call) (i : ℕ) (d : Call) (old mid : State) (a : Answer) → mid ≡ after (take i calls) old
    → a ≡ (turn (get_or calls i d) mid).answer
    → a ≡ (turn (get_or calls i d) (after (take i calls) old)).answer
answer_is calls i d old mid a m is = is ∙ ap (λ s. (turn (get_or calls i d) s).answer) m

pub unrefused_more : (calls : List Call) (i : ℕ) (d : Call) (old mid new : State) (before answers : List Answer)
    (a : Answer) → i < length calls → length before ≡ length calls
    → Unrefused calls i old before mid answers
    → a ≡ (turn (get_or calls i d) mid).answer → new ≡ (turn (get_or calls i d) mid).state → a ≢ answer.Refused
    → Unrefused calls (i + 1) old before new (set answers i a)
unrefused_more calls i d old mid new before answers a h same so_far is gives n =
    let call = get_or calls i d in
    record {
      told = told_more calls i d old mid new before answers a h same so_far.told.state so_far.told.told is gives;
      unrefused = All-same (λ (x : Answer). x ≢ answer.Refused) (answers_of (take (i + 1) calls) old)
          (answers_of (take i calls) old ++ (turn call (after (take i calls) old)).answer ∷ [])
          (ap (λ cs. answers_of cs old) (take_more calls i d h) ∙ answers_of-push (take i calls) call old)
          (All-push (λ (x : Answer). x ≢ answer.Refused) (answers_of (take i calls) old)
          (turn call (after (take i calls) old)).answer so_far.unrefused
          (subst (λ (x : Answer). x ≢ answer.Refused) (answer_is calls i d old mid a so_far.told.state is) n));
    }

pub refused_at : (calls : List Call) (i : ℕ) (d : Call) (old mid new : State) (before answers : List Answer)
    (a : Answer) → i < length calls → length before ≡ length calls
    → Unrefused calls i old before mid answers
    → a ≡ (turn (get_or calls i d) mid).answer → new ≡ (turn (get_or calls i d) mid).state → a ≡ answer.Refused
    → RefusedAt i calls old before (set answers i a)
refused_at calls i d old mid new before answers a h same so_far is gives r =
    let more = told_more calls i d old mid new before answers a h same so_far.told.state so_far.told.told is gives in
    record {
      within = h;
      first = so_far.unrefused;
      refused = rw (slice_get-get_or calls i d h) (sym (answer_is calls i d old mid a so_far.told.state is) ∙ r);
      told = more.told;
    }

pub wants_memory_at : (calls : List Call) (i : ℕ) (d : Call) (old mid : State) (before answers : List Answer)
    → i < length calls
    → Unrefused calls i old before mid answers → MayStop (get_or calls i d) mid
    → WantsMemoryAt i calls old before answers
wants_memory_at calls i d old mid before answers h so_far may =
    record {
      unrefused = so_far.unrefused;
      stops = record {
        within = h;
        due = rw (slice_get-get_or calls i d h) (subst (MayStop (get_or calls i d)) so_far.told.state may);
        state = refl;
        told = so_far.told.told;
      };
    }
