-- Lookups of a plan in a row, and those that a digest lets pass by.
use Rattle.std.proofs.Common.{◌≡◌, ℕ, zero, suc, ◌+◌, ◌-◌, ◌<◌, ◌≤◌, Bool, true, false, List, [], ◌∷◌, ◌++◌, length, get_or, drop}
use Rattle.std.proofs.Common.{Option, None, Some, Ok, refl, sym, ap, subst, ◌∙◌, arith, length-append}
use Rattle.std.proofs.lemmas.Bool.{false≢true}
use Rattle.std.proofs.lemmas.List.{drop_all, drop_more, get_or-append_right, get_or-map, length-map}
use Rattle.rb_glyph.specs.declared.info.hb_glyph_info_t.{hb_glyph_info_t}
use Rattle.glyph_digests.specs.Digest.{HasGlyphs, may_have}
use Rattle.glyph_digests.specs.declared.digest.Digest.{Digest}
use Rattle.glyph_lists.specs.Clusters.{zero_glyph}
use Rattle.ot_lookups.specs.Lookup.{IsForNone}
use Rattle.ot_lookups.specs.LookupProps.{glyph_at}
use Rattle.ot_lookups.specs.declared.lookup_list.Lookup.{Lookup}
use Rattle.ot_layout.specs.declared.search.Search.{Search}
use Rattle.ot_map.specs.declared.plan.Pause.TheVariants.{Nothing}
use Rattle.ot_map.specs.declared.plan.PlannedLookup.{PlannedLookup}
use Rattle.ot_map.specs.declared.plan.Stage.{Stage}
use Rattle.font_face.specs.declared.face.Face.{Face}
use Rattle.ot_plan.specs.declared.planning.TextPlan.{TextPlan}
use Rattle.shaping_buffer.specs.State.{State}
use Rattle.shaping_buffer.specs.ClusterStep.{both}
use Rattle.shaping_buffer.specs.KeepsClusters.{KeepsClusters}
use Rattle.ot_gsub.specs.Changes.{glyph_numbers, numbers_of}
use Rattle.ot_gsub.specs.Nested.{Now, now_of}
use Rattle.ot_gsub.specs.Runs.{IsRun}
use Rattle.ot_gsub.specs.declared.substitution.Progress.{Progress}
use Rattle.ot_gsub.specs.declared.substitution.Substitutions.{Substitutions}
use Rattle.ot_gsub.proofs.RunsLemmas.{run_none}
use Rattle.ot_apply.specs.ClusterOrder.{KeepsStage}
use Rattle.ot_apply.specs.Stages.{AreRuns, AreStagesDone, IsPlannedRun, IsRunThen, IsStageThen, joins, lookups_of}

-- ---- what a digest has

-- glyphs with the same numbers
met_by : (d : Digest) (old new : List hb_glyph_info_t) → numbers_of new ≡ numbers_of old → HasGlyphs d old → HasGlyphs d new
met_by d old new same met k e within =
    let long : length new ≡ length old =
    sym (length-map new (λ (g : hb_glyph_info_t). g.glyph_id)) ∙ ap length same ∙ length-map old (λ (g : hb_glyph_info_t). g.glyph_id) in
    let in_old : k < length old = omega (arith, within, long) in
    let number : (get_or new k e).glyph_id ≡ (get_or old k e).glyph_id =
    sym (get_or-map (λ (g : hb_glyph_info_t). g.glyph_id) new k e 0 within) ∙ ap (λ (l : List ℕ). get_or l k 0) same
    ∙ get_or-map (λ (g : hb_glyph_info_t). g.glyph_id) old k e 0 in_old in
    ap (may_have d) number ∙ met k e in_old

-- the second of two lists
in_second : (d : Digest) (out input : List hb_glyph_info_t) → HasGlyphs d (out ++ input) → HasGlyphs d input
in_second d out input met k e within =
    let back : length out + k - length out ≡ k = omega arith in
    let there : length out + k < length (out ++ input) = omega (arith, within, length-append out input) in
    ap (λ (g : hb_glyph_info_t). may_have d g.glyph_id)
    (ap (λ j. get_or input j e) (sym back)
    ∙ sym (get_or-append_right out input (length out) (length out + k) e refl (omega arith)))
    ∙ met (length out + k) e there

-- a buffer whose glyphs have the same numbers
pub met_after : (d : Digest) (s t : State) → s.out ≡ [] → glyph_numbers t ≡ glyph_numbers s → HasGlyphs d s.input
    → HasGlyphs d t.input
met_after d s t empty same met =
    in_second d t.out t.input (met_by d (both s) (both t) same
    (subst (λ (o : List hb_glyph_info_t). HasGlyphs d (o ++ s.input)) (sym empty) met))

-- ---- one lookup

-- a lookup that is for none of the glyphs that a digest may have does nothing
pub passed_by : (substitutions : Substitutions) (lookup : Option Lookup) (d : Digest) (old : Now)
    → ((l : Lookup) → lookup ≡ Some l → IsForNone l d) → HasGlyphs d old.buffer.input → IsRun substitutions lookup old (Ok true) old
passed_by substitutions None d old none met = (refl, refl)
passed_by substitutions (Some lookup) d old none met =
    run_none substitutions lookup old
    (λ k within. none lookup refl (glyph_at old.buffer.input k) (met k zero_glyph within) substitutions.options.mask)

-- what is carried on is the same
pub now_of-same : (s : State) (p q : Progress) → q.search ≡ p.search → q.random_state ≡ p.random_state → now_of s q ≡ now_of s p
now_of-same s p q search random =
    ap (λ k. record (now_of s q) { random = k }) random
    ∙ ap (λ (x : Search). record (now_of s p) { left = x.budget.nested }) search

-- ---- lookups in a row

module _ (face : Face) where
  runs_empty : (old : Now) → AreRuns face [] old old
  unfolding AreRuns
  runs_empty old = refl

  runs_first : (planned : PlannedLookup) (rest : List PlannedLookup) (old new : Now)
      → IsRunThen face planned (AreRuns face rest) old new → AreRuns face (planned ∷ rest) old new
  unfolding AreRuns
  runs_first planned rest old new is = is

  pub runs_none : (lookups : List PlannedLookup) (i : ℕ) (old : Now) → length lookups ≤ i → AreRuns face (drop i lookups) old old
  runs_none lookups i old past =
      subst (λ (l : List PlannedLookup). AreRuns face l old old) (sym (drop_all i lookups past)) (runs_empty old)

  pub runs_next : (lookups : List PlannedLookup) (i : ℕ) (d : PlannedLookup) (old mid new : Now) → i < length lookups
      → IsPlannedRun face (get_or lookups i d) old mid → AreRuns face (drop (i + 1) lookups) mid new
      → AreRuns face (drop i lookups) old new
  runs_next lookups i d old mid new within first others =
      subst (λ (l : List PlannedLookup). AreRuns face l old new) (sym (drop_more lookups i d within))
      (runs_first (get_or lookups i d) (drop (i + 1) lookups) old new (record { mid = mid; first = first; others = others }))

-- ---- stages in a row

module _ (face : Face) (plan : TextPlan) where
  stages_empty : (start : ℕ) (old : Now) → AreStagesDone face plan [] start old old
  unfolding AreStagesDone
  stages_empty start old = refl

  stages_first : (stage : Stage) (rest : List Stage) (start : ℕ) (old new : Now)
      → IsStageThen face plan stage start (AreStagesDone face plan rest stage.end) old new
      → AreStagesDone face plan (stage ∷ rest) start old new
  unfolding AreStagesDone
  stages_first stage rest start old new is = is

  pub stages_none : (stages : List Stage) (i start : ℕ) (old : Now) → length stages ≤ i
      → AreStagesDone face plan (drop i stages) start old old
  stages_none stages i start old past =
      subst (λ (l : List Stage). AreStagesDone face plan l start old old) (sym (drop_all i stages past)) (stages_empty start old)

  pub stages_next : (stages : List Stage) (i start : ℕ) (d : Stage) (lookups : List PlannedLookup) (old : Now) (marked : State)
      (mid after later new : Now) → i < length stages
      → lookups ≡ lookups_of plan.shape.layout.gsub_lookups.items start (get_or stages i d).end
      → KeepsClusters old.buffer marked → (joins plan.syllables ≡ false → marked ≡ old.buffer)
      → AreRuns face lookups (record old { buffer = marked }) mid
      → KeepsStage plan.syllables mid.buffer after.buffer → after.left ≤ mid.left
      → ((get_or stages i d).pause ≡ Nothing → after ≡ mid) → later ≡ after
      → AreStagesDone face plan (drop (i + 1) stages) (get_or stages i d).end later new
      → AreStagesDone face plan (drop i stages) start old new
  stages_next stages i start d lookups old marked mid after later new within listed marks unmarked runs paused fewer unpaused same
      others =
      let stage = get_or stages i d in
      subst (λ (l : List Stage). AreStagesDone face plan l start old new) (sym (drop_more stages i d within))
      (stages_first stage (drop (i + 1) stages) start old new (record {
        marked = marked;
        mid = mid;
        after = after;
        marks = marks;
        unmarked = unmarked;
        runs = subst (λ (l : List PlannedLookup). AreRuns face l (record old { buffer = marked }) mid) listed runs;
        paused = paused;
        fewer = fewer;
        unpaused = unpaused;
        others = subst (λ (n : Now). AreStagesDone face plan (drop (i + 1) stages) stage.end n new) same others;
      }))

-- ---- answers

-- where nothing says that shaping was given up, steps are left
pub steps_left : (steps : ℕ) (failed : Bool) → (steps ≡ 0 → failed ≡ true) → failed ≡ false → 0 < steps
steps_left zero failed says fine = absurd (false≢true (sym fine ∙ says refl))
steps_left (suc n) failed says fine = omega arith
