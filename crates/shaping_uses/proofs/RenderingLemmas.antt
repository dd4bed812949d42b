-- A ligature in a text that was pushed: no call is refused, none asks for memory, and the output is closed.
use Rattle.std.proofs.Common.{◌≡◌, ◌≢◌, ℕ, zero, suc, ◌+◌, ◌≤◌, true, false, eqb, List, [], ◌∷◌, ◌++◌, take}
use Rattle.std.proofs.Common.{drop, length, cond, refl, sym, ap, subst, ◌∙◌, arith, leb, map, nat_lt, nat_le}
use Rattle.std.proofs.Common.{length-append, length-take, length-drop}
use Rattle.std.specs.Prelude.{Some, None, slice_index_or}
use Rattle.std.specs.Str.{chars}
use Rattle.glyph_sides.specs.TextGlyphs.{glyphs_at}
use Rattle.glyph_lists.specs.Clusters.{zero_glyph}
use Rattle.glyph_lists.specs.Replacement.{copies}
use Rattle.shaping_buffer.specs.ClusterLevel.{level_of}
use Rattle.shaping_buffer.specs.declared.buffer.TheConstants.hb_buffer_t.{MAX_LEN_DEFAULT, MAX_OPS_DEFAULT}
use Rattle.std.specs.Borrow.{Bor}
use Rattle.std.proofs.lemmas.Bool.{cond_both, cond-true, and_parts, false≢true, le-leb, leb-true, not_from_false}
use Rattle.std.proofs.lemmas.List.{length-map}
use Rattle.rb_glyph.specs.declared.info.hb_glyph_info_t.{hb_glyph_info_t}
use Rattle.rb_text.specs.declared.feature.Feature.{Feature}
use Rattle.glyph_lists.specs.Masks as masks
use Rattle.glyph_lists.proofs.LengthsLemmas.{length-merge_or_mark, length_copies}
use Rattle.shaping_buffer.specs.declared.cluster_level.BufferClusterLevel.{BufferClusterLevel}
use Rattle.shaping_buffer.specs.State.{State, empty_state, len, lookahead_len}
use Rattle.shaping_buffer.specs.Step.{Outcome, clear_output, settled, sync}
use Rattle.shaping_buffer.specs.ClusterStep.{any_order, both}
use Rattle.shaping_buffer.proofs.ReplacementLemmas.{front_merged, front_replaced, replace_glyphs-done}
use Rattle.shaping_runs.specs.declared.call.Call.TheVariants.{ClearOutput, ReplaceGlyphs, Sync}
use Rattle.shaping_runs.specs.declared.call.Answer.{Answer}
use Rattle.shaping_runs.specs.declared.call.Answer.TheVariants.{Done, Refused}
use Rattle.shaping_runs.specs.declared.rendering.RenderFault.{RenderFault}
use Rattle.shaping_runs.specs.declared.rendering.RenderFault.TheVariants as fault
use Rattle.shaping_runs.specs.Render.{pushed_text, with_feature, text_with_features, FailsOnText, Fails}
use Rattle.shaping_runs.specs.Render.{RefusedAt, feature_bit}
use Rattle.shaping_runs.specs.Replay.{answer_of, Turn, after, turn, may_be_made}
use Rattle.shaping_runs.specs.Separation.{IsInPlace}
use Rattle.shaping_runs.proofs.InPlaceLaws.{never_stops}
use Rattle.shaping_runs.proofs.InPlaceSteps.{stays_in_place}
use Rattle.shaping_uses.proofs.RunsLemmas.{calls_with}

-- ---- the text

-- no output is open, nothing was refused, and the list is not too long
pub record IsReady (s : State) : Type 0 where
  pub closed : s.have_output ≡ false
  pub together : s.have_separate_output ≡ false
  pub none_out : s.out ≡ []
  pub successful : s.successful ≡ true
  pub fits : length s.input ≤ s.max_len

pushed_ready : (level : BufferClusterLevel) (text : List ℕ) → (pushed_text level text).done ≡ true
    → IsReady (pushed_text level text).state
pushed_ready level text =
    let l = glyphs_at 0 (chars text) in
    cond_both (leb (length l) MAX_LEN_DEFAULT)
    (record {
      done = true;
      state = settled (record (empty_state MAX_LEN_DEFAULT MAX_OPS_DEFAULT) {
        cluster_level = level_of level;
        input = l;
      });
    })
    (record {
      done = false;
      state = record (empty_state MAX_LEN_DEFAULT MAX_OPS_DEFAULT) { cluster_level = level_of level; successful = false };
    })
    (λ (o : Outcome). o.done ≡ true → IsReady o.state)
    (λ fits _. record {
      closed = refl;
      together = refl;
      none_out = refl;
      successful = refl;
      fits = leb-true (length l) MAX_LEN_DEFAULT fits;
    })
    (λ _ off. absurd (false≢true off))

length-set_masks : (value mask start end : ℕ) (l : List hb_glyph_info_t)
    → length (masks.set_masks value mask start end l) ≡ length l
unfolding masks.set_masks
length-set_masks value mask start end l =
    let set : hb_glyph_info_t → hb_glyph_info_t =
    λ g. cond (masks.in_clusters start end g.cluster) (masks.with_bits value mask g) g in
    cond_both (eqb mask 0) l (map set l) (λ (r : List hb_glyph_info_t). length r ≡ length l) (λ _. refl)
    (λ _. length-map l set)

feature_ready : (i : ℕ) (f : Feature) (s : State) → IsReady s → IsReady (with_feature i f s)
feature_ready i f s ready = record {
  closed = ready.closed;
  together = ready.together;
  none_out = ready.none_out;
  successful = ready.successful;
  fits = omega (
    arith,
    length-set_masks (cond (eqb f.value 0) 0 (feature_bit i)) (feature_bit i) f.start f.end s.input,
    ready.fits,
  );
}

pub text_ready : (level : BufferClusterLevel) (text : List ℕ) (f : Feature) → (pushed_text level text).done ≡ true
    → IsReady (text_with_features level text (f ∷ []))
text_ready level text f done = feature_ready 0 f _ (pushed_ready level text done)

-- ---- the calls

-- an output is open, nothing was refused, and both sides fit together
abbrev IsOpen : State → Type 0
IsOpen s = (s.have_output ≡ true) × (s.successful ≡ true) × (length s.out + length s.input ≤ s.max_len)

turn-clear_output : (s : State) → IsReady s
    → turn ClearOutput s ≡ record { answer = Done; state = clear_output s }
turn-clear_output s ready = cond-true _ _ _ (not_from_false s.have_output ready.closed)

-- the state after the copies were put out
replaced_open : (ids : List ℕ) (s : State) → s.have_output ≡ true → s.successful ≡ true → s.out ≡ [] → length ids ≤ 1
    → 2 ≤ length s.input → length s.input ≤ s.max_len → IsOpen (settled (front_replaced 2 ids s))
replaced_open ids s opened good none_out one two fits =
    let l = front_merged (any_order s) 2 s in
    let none : length s.out ≡ 0 = ap length none_out in
    let n : length l ≡ length s.input =
    length-merge_or_mark (any_order s) (both s) (length s.out) (length s.out + 2) 0
    ∙ omega (arith, length-append s.out s.input, none) in
    let out : length (front_replaced 2 ids s).out ≡ length (take (length s.out) l) + length ids =
    let head = slice_index_or (drop (length s.out) l) 0 zero_glyph in
    length-append (take (length s.out) l) (copies head ids)
    ∙ ap (λ k. length (take (length s.out) l) + k) (length_copies head ids) in (
      opened,
      good,
      omega (
        arith,
        n,
        none,
        out,
        one,
        two,
        fits,
        length-take (length s.out) l,
        length-drop (length s.out) l,
        length-drop 2 (drop (length s.out) l),
      ),
    )

abbrev GoesOn : Turn → Type 0
GoesOn t = (t.answer ≢ Refused) × IsOpen t.state

ligated : (ids : Bor (List ℕ)) (s : State) → IsReady s → GoesOn (turn (ReplaceGlyphs 2 1 ids) (clear_output s))
ligated ids s ready =
    let t = clear_output s in
    let call = ReplaceGlyphs 2 1 ids in
    cond_both (may_be_made call t) _ _ GoesOn
    (λ may. let parts = and_parts (nat_lt t.idx (len t)) _ may in
    let two : 2 ≤ length s.input = omega (arith, leb-true 2 (lookahead_len t) (and_parts (nat_le 2 (lookahead_len t)) _ parts.1).0) in
    let one : length (take 1 ids.now) ≤ 1 = omega (arith, length-take 1 ids.now) in
    let is = replace_glyphs-done 2 (take 1 ids.now) t refl (omega (arith, one, two, ready.fits)) in
    subst (λ (o : Outcome). GoesOn (record { answer = answer_of o.done; state = o.state })) (sym is)
    ((λ e. cc), replaced_open (take 1 ids.now) t refl ready.successful refl one two ready.fits))
    (λ _. ((λ e. cc), (refl, ready.successful, omega (arith, ready.fits))))

closes : (s : State) → IsOpen s → ((turn Sync s).answer ≢ Refused) × ((turn Sync s).state.have_output ≡ false)
closes s under =
    let after : State = record s {
      have_output = false;
      have_separate_output = false;
      out = [];
      input = s.out ++ s.input;
      idx = 0;
    } in
    let is : sync s ≡ record { done = true; state = settled after } =
    cond-true s.successful _ _ under.1
    ∙ cond-true (leb (length (s.out ++ s.input)) s.max_len) _ _
    (le-leb _ _ (omega (arith, length-append s.out s.input, under.2))) in
    let turned : turn Sync s ≡ record { answer = Done; state = settled after } =
    cond-true s.have_output _ _ under.0
    ∙ ap (λ (o : Outcome). record { answer = answer_of o.done; state = o.state }) is in
    subst (λ (t : Turn). (t.answer ≢ Refused) × (t.state.have_output ≡ false)) (sym turned) ((λ e. cc), refl)

-- none is refused, and the output is closed
record Goes (ids : Bor (List ℕ)) (s : State) : Type 0 where
  first : (turn ClearOutput s).answer ≢ Refused
  second : (turn (ReplaceGlyphs 2 1 ids) (turn ClearOutput s).state).answer ≢ Refused
  third : (turn Sync (after (take 2 (calls_with ids)) s)).answer ≢ Refused
  closed : (after (calls_with ids) s).have_output ≡ false

goes : (ids : Bor (List ℕ)) (s : State) → IsReady s → Goes ids s
goes ids s ready =
    let is = turn-clear_output s ready in
    let state = ap (λ (t : Turn). t.state) is in
    let call = ReplaceGlyphs 2 1 ids in
    let made : GoesOn (turn call (turn ClearOutput s).state) =
    subst (λ t. GoesOn (turn call t)) (sym state) (ligated ids s ready) in
    let end = closes (turn call (turn ClearOutput s).state).state made.1 in
    record {
      first = subst (λ (t : Turn). t.answer ≢ Refused) (sym is) (λ e. cc);
      second = made.0;
      third = end.0;
      closed = end.1;
    }

never_refused : (ids : Bor (List ℕ)) (s : State) → IsReady s → (at : ℕ) (before answers : List Answer)
    → RefusedAt at (calls_with ids) s before answers → ⊥
never_refused ids s ready zero before answers stop = (goes ids s ready).first stop.refused
never_refused ids s ready (suc zero) before answers stop = (goes ids s ready).second stop.refused
never_refused ids s ready (suc (suc zero)) before answers stop = (goes ids s ready).third stop.refused
never_refused ids s ready (suc (suc (suc n))) before answers stop = absurd (omega (arith, stop.within))

-- so only the text can fail
pub fails_on_text : (ids : Bor (List ℕ)) (f : Feature) (level : BufferClusterLevel) (text : List ℕ)
    (before answers : List Answer) (e : RenderFault) → Fails e level text (f ∷ []) (calls_with ids) before answers
    → FailsOnText e level text
fails_on_text ids f level text before answers fault.TooManyFeatures fails = absurd (omega (arith, fails.0))
fails_on_text ids f level text before answers fault.Length fails = fails.1
fails_on_text ids f level text before answers (fault.Memory None) fails = (fails.0.fits, fails.1)
fails_on_text ids f level text before answers (fault.Refused at) fails =
    absurd (never_refused ids _ (text_ready level text f fails.0.fits) at before answers fails.1)
fails_on_text ids f level text before answers (fault.Memory (Some at)) fails =
    let s = text_with_features level text (f ∷ []) in
    let ready = text_ready level text f fails.0.fits in
    let here : IsInPlace s = record {
      together = ready.together;
      near = omega (arith, ap length ready.none_out);
      closed = λ _. ready.none_out;
    } in
    let stays = stays_in_place (calls_with ids) s (refl, (refl, (refl, tt))) here in
    absurd (never_stops (calls_with ids) s stays at before _ answers fails.1.stops)
fails_on_text ids f level text before answers fault.OutputLeftOpen fails =
    let s = text_with_features level text (f ∷ []) in
    let end = (goes ids s (text_ready level text f fails.0.fits)).closed in
    absurd (false≢true (sym end ∙ fails.2))
