-- What each call keeps of the clusters of both sides.
use Rattle.std.proofs.Common.{◌≡◌, ◌⊎◌, inl, inr, ℕ, zero, suc, ◌+◌, ◌-◌, ◌<◌, ◌≤◌, Bool, true, false, List, [], ◌∷◌, ◌++◌, length, map, take}
use Rattle.std.proofs.Common.{drop, cond, append_assoc, refl, sym, ap, ◌∙◌, subst, arith, leb, ltb, length-append}
use Rattle.std.specs.Prelude.{⊤, not, Result, Ok, Err, Option, Some, slice_index_or}
use Rattle.std.specs.declared.alloc.AllocError.{AllocError}
use Rattle.std.proofs.lemmas.Bool.{cond_both}
use Rattle.std.proofs.lemmas.List.{map-append, take_more, take_all}
use Rattle.std.proofs.Math.Seq.{drop-cons}
use Rattle.rb_glyph.specs.declared.info.hb_glyph_info_t.{hb_glyph_info_t}
use Rattle.rb_glyph.specs.declared.glyph_flag.TheConstants.{UNSAFE_TO_CONCAT, SAFE_TO_INSERT_TATWEEL}
use Rattle.rb_glyph.specs.declared.flag_sets.TheConstants.BufferFlags.{PRODUCE_UNSAFE_TO_CONCAT}
use Rattle.rb_glyph.specs.declared.flag_sets.TheConstants.BufferFlags.{PRODUCE_SAFE_TO_INSERT_TATWEEL}
use Rattle.glyph_lists.specs.Clusters.{clusters, occurs, least, zero_glyph}
use Rattle.glyph_lists.specs.Deletion.{deletion}
use Rattle.glyph_lists.specs.GlyphFlags.{BreakImpliesConcat}
use Rattle.glyph_lists.specs.KeptClusters.{BringsNoCluster, Runs}
use Rattle.glyph_lists.specs.Replacement.{copies, replacement}
use Rattle.glyph_lists.specs.declared.glyph_flags.TheConstants.{BREAK_BITS}
use Rattle.glyph_lists.proofs.LengthsLemmas.{length-deletion}
use Rattle.glyph_laws.proofs.GlyphFlagsLemmas.{two_agrees, three_agrees, four_agrees}
use Rattle.glyph_laws.proofs.NumbersLemmas.{Stands, Stands-from_occurs, occurs-from_stands, least-deletion}
use Rattle.glyph_laws.proofs.NumbersLemmas.{stands_left, stands_right}
use Rattle.glyph_laws.proofs.OrderLemmas.{run_merge_keeps_running}
use Rattle.glyph_laws.proofs.ReadingsLemmas.{at, running_reading}
use Rattle.glyph_laws.proofs.ReplacementLemmas.{least-replacement}
use Rattle.shaping_buffer.specs.State.{State, len, lookahead_len}
use Rattle.shaping_buffer.specs.Step as step
use Rattle.shaping_buffer.specs.Step.{Outcome, Meets, MeetsOrWants, limited, put_out, skip_glyphs, next_glyphs, split_at, with_id}
use Rattle.shaping_buffer.specs.Step.{glyph_to_copy, settled}
use Rattle.shaping_buffer.specs.ClusterLevel.{allows_any_order, groups_graphemes}
use Rattle.shaping_buffer.specs.ClusterStep as cluster_step
use Rattle.shaping_buffer.specs.ClusterStep.{both, both_place, any_order, head_of, merge_input, plain_scan}
use Rattle.shaping_buffer.specs.ClusterStep.{flag_all, range_start, range_end, asks}
use Rattle.shaping_buffer.specs.KeepsClusters.{KeepsClusterOrder, KeepsClusters, TurnsClusters, HasTwin, IsBeside}
use Rattle.shaping_buffer.proofs.ReplacementLemmas.{replace_glyphs-sides, replaced_both}
use Rattle.shaping_buffer.proofs.Steps.{StepsKeep, KeepingSteps, range_end-some, front_left, next_keeps, rename_keeps}
use Rattle.shaping_buffer.proofs.Steps.{output_keeps, copy_keeps, move_keeps, skip_keeps, merge_keeps}
use Rattle.shaping_buffer.proofs.Steps.{merge_out_keeps, plain_scan_keeps, scan_sides_keeps, flag_all_keeps}
use Rattle.shaping_buffer.proofs.Steps.{replace_keeps, delete_keeps}
use Rattle.shaping_buffer.proofs.ReadingSteps.{reading_steps}
use Rattle.shaping_buffer.proofs.LeastSteps.{StoodIn, stood_steps, StaysLeast, least_steps, least_stays, least_by}
use Rattle.shaping_buffer.proofs.LeastSteps.{stands_split}

-- ---- the relations

pub ordered_none : (s : State) → KeepsClusterOrder s s
ordered_none s = record { level = refl; order = λ any up h. h; numbers = λ c on. on }

pub keeps_none : (s : State) → KeepsClusters s s
keeps_none s = record { ordered = ordered_none s; least = λ any some. refl }

same_order : (s t : State) → t.cluster_level ≡ s.cluster_level → any_order s ≡ false → any_order t ≡ false
same_order s t level any = ap allows_any_order level ∙ any

pub ordered_then : (s t u : State) → KeepsClusterOrder s t → KeepsClusterOrder t u → KeepsClusterOrder s u
ordered_then s t u a b = record {
  level = b.level ∙ a.level;
  order = λ any up h. b.order (same_order s t a.level any) up (a.order any up h);
  numbers = λ c on. a.numbers c (b.numbers c on);
}

-- a glyph that is there was there, or one of its cluster
some_before : (l m : List hb_glyph_info_t) → BringsNoCluster l m → 0 < length m → 0 < length l
some_before l m back some =
    let c = (at m 0).cluster in
    let w = Stands-from_occurs c l (back c (occurs-from_stands c m (0, some, refl))) in
    omega (arith, w.1)

pub keeps_then : (s t u : State) → KeepsClusters s t → KeepsClusters t u → KeepsClusters s u
keeps_then s t u a b = record {
  ordered = ordered_then s t u a.ordered b.ordered;
  least = λ any some.
      b.least (same_order s t a.ordered.level any) some
      ∙ a.least any (some_before (both t) (both u) b.ordered.numbers some);
}

-- a list that is turned, before or behind steps that keep clusters
pub keeps_then_turns : (s t u : State) → KeepsClusters s t → TurnsClusters t u → TurnsClusters s u
keeps_then_turns s t u a b = record {
  level = b.level ∙ a.ordered.level;
  order = λ any up h. b.order (same_order s t a.ordered.level any) up (a.ordered.order any up h);
  numbers = λ c on. a.ordered.numbers c (b.numbers c on);
  least = λ any some.
      b.least (same_order s t a.ordered.level any) some
      ∙ a.least any (some_before (both t) (both u) b.numbers some);
}

pub turns_then_keeps : (s t u : State) → TurnsClusters s t → KeepsClusters t u → TurnsClusters s u
turns_then_keeps s t u a b = record {
  level = b.ordered.level ∙ a.level;
  order = λ any up h. b.ordered.order (same_order s t a.level any) (not up) (a.order any up h);
  numbers = λ c on. a.numbers c (b.ordered.numbers c on);
  least = λ any some.
      b.least (same_order s t a.level any) some
      ∙ a.least any (some_before (both t) (both u) b.ordered.numbers some);
}

not-not : (up : Bool) → not (not up) ≡ up
not-not true = refl
not-not false = refl

-- a list that is turned twice keeps its order
pub turns_twice : (s t u : State) → TurnsClusters s t → TurnsClusters t u → KeepsClusters s u
turns_twice s t u a b = record {
  ordered = record {
    level = b.level ∙ a.level;
    order = λ any up h. subst (λ way. Runs way (clusters (both u))) (not-not up)
        (b.order (same_order s t a.level any) (not up) (a.order any up h));
    numbers = λ c on. a.numbers c (b.numbers c on);
  };
  least = λ any some.
      b.least (same_order s t a.level any) some
      ∙ a.least any (some_before (both t) (both u) b.numbers some);
}

-- the clusters of both sides are the same
pub keeps_alike : (s t : State) → t.cluster_level ≡ s.cluster_level → clusters (both t) ≡ clusters (both s)
    → KeepsClusters s t
keeps_alike s t level e = record {
  ordered = record {
    level = level;
    order = λ any up. subst (Runs up) (sym e);
    numbers = λ c on. subst (λ cs. occurs c cs ≡ true) e on;
  };
  least = λ any some. ap least e;
}

-- ---- from what steps keep

ordered_by : (s t : State) → t.cluster_level ≡ s.cluster_level
    → ((P : List hb_glyph_info_t → Type 0) → StepsKeep P (λ _. ⊤) → P (both s) → P (both t)) → KeepsClusterOrder s t
ordered_by s t level f = record {
  level = level;
  order = λ any up. f (λ l. Runs up (clusters l))
      (reading_steps (λ l. Runs up (clusters l)) (λ _. ⊤) tt (running_reading up)
      (λ floor _ l p q. run_merge_keeps_running up l p q floor));
  numbers = λ c on. occurs-from_stands c (both s)
      (f (StoodIn (both s) c) (stood_steps (both s) c) (λ w. w) (Stands-from_occurs c (both t) on));
}

keeps_by : (s t : State) → t.cluster_level ≡ s.cluster_level
    → ((P : List hb_glyph_info_t → Type 0) → KeepingSteps P (λ _. ⊤) → P (both s) → P (both t)) → KeepsClusters s t
keeps_by s t level f =
    let ordered = ordered_by s t level (λ P steps. f P steps.keeping) in
    record {
      ordered = ordered;
      least = λ any some. least_stays (both s) (both t) ordered.numbers
          (f (StaysLeast (both s)) (least_steps (both s)) (λ c h. h)) some;
    }

-- whatever the answer of a call
module _ (may_want : Type 0) (o : Outcome) (s : State) where
  pub keeps_answer : KeepsClusters s o.state → (r : Result Bool AllocError) (t : State)
      → MeetsOrWants may_want o s r t → KeepsClusters s t
  keeps_answer kept (Ok done) t m = subst (KeepsClusters s) (sym m.1) kept
  keeps_answer kept (Err e) t m = subst (KeepsClusters s) (sym m.2) (keeps_none s)

  pub ordered_answer : KeepsClusterOrder s o.state → (r : Result Bool AllocError) (t : State)
      → MeetsOrWants may_want o s r t → KeepsClusterOrder s t
  ordered_answer kept (Ok done) t m = subst (KeepsClusterOrder s) (sym m.1) kept
  ordered_answer kept (Err e) t m = subst (KeepsClusterOrder s) (sym m.2) (ordered_none s)

-- ---- levels

cluster_level-limited : (held : ℕ) (s new : State) → new.cluster_level ≡ s.cluster_level
    → (limited held s new).state.cluster_level ≡ s.cluster_level
cluster_level-limited held s new e =
    cond_both (leb held s.max_len) _ _ (λ (o : Outcome). o.state.cluster_level ≡ s.cluster_level) (λ _. e) (λ _. refl)

cluster_level-put_out : (xs : List hb_glyph_info_t) (s after : State) → after.cluster_level ≡ s.cluster_level
    → (put_out xs s after).state.cluster_level ≡ s.cluster_level
cluster_level-put_out xs s after e =
    cluster_level-limited (length (s.out ++ xs)) s (record after { out = after.out ++ xs }) e

cluster_level-next_glyphs : (n : ℕ) (s : State) → (next_glyphs n s).state.cluster_level ≡ s.cluster_level
cluster_level-next_glyphs n s = cond_both s.have_output _ _ (λ (o : Outcome). o.state.cluster_level ≡ s.cluster_level)
    (λ _. cluster_level-put_out (take n s.input) s (skip_glyphs n s) refl) (λ _. refl)

cluster_level-move_to : (place : ℕ) (s : State) → (step.move_to place s).state.cluster_level ≡ s.cluster_level
cluster_level-move_to place s = cond_both s.have_output _ _ (λ (o : Outcome). o.state.cluster_level ≡ s.cluster_level)
    (λ _. cond_both s.successful _ _ (λ (o : Outcome). o.state.cluster_level ≡ s.cluster_level)
    (λ _. cluster_level-limited _ s (split_at place s) refl) (λ _. refl)) (λ _. refl)

cluster_level-plain_scan : (any : Bool) (bits start end : ℕ) (s : State)
    → (plain_scan any bits start end s).cluster_level ≡ s.cluster_level
cluster_level-plain_scan any bits start end s =
    cond_both (ltb _ 2) _ _ (λ (t : State). t.cluster_level ≡ s.cluster_level) (λ _. refl) (λ _. refl)

-- ---- the cursor calls

pub keeps_clear_output : (s : State) → s.out ≡ [] → KeepsClusters s (step.clear_output s)
keeps_clear_output s none =
    keeps_alike s (step.clear_output s) refl (sym (ap (λ l. clusters (l ++ s.input)) none))

pub keeps_next_glyphs : (n : ℕ) (s : State) → KeepsClusters s (next_glyphs n s).state
keeps_next_glyphs n s = keeps_by s (next_glyphs n s).state (cluster_level-next_glyphs n s)
    (λ P steps. next_keeps P (λ _. ⊤) steps n s)

pub ordered_skip_glyph : (s : State) → KeepsClusterOrder s (step.skip_glyph s)
ordered_skip_glyph s = ordered_by s (step.skip_glyph s) refl (λ P steps. skip_keeps P (λ _. ⊤) steps s)

-- the first glyph, or those behind it
at_head : (c : ℕ) (l : List hb_glyph_info_t) → Stands c l → ((at l 0).cluster ≡ c) ⊎ Stands c (drop 1 l)
at_head c [] w = absurd (omega (arith, w.1))
at_head c (x ∷ rest) w = go w.0 w.1 w.2
  where
    go : (k : ℕ) → k < suc (length rest) → (at (x ∷ rest) k).cluster ≡ c → (x.cluster ≡ c) ⊎ Stands c rest
    go zero h e = inl e
    go (suc k) h e = inr (k, omega arith, e)

twin_stands : (c : ℕ) (out input : List hb_glyph_info_t)
    → occurs (slice_index_or input 0 zero_glyph).cluster (clusters (out ++ drop 1 input)) ≡ true → Stands c (out ++ input)
    → Stands c (out ++ drop 1 input)
twin_stands c out input twin w = elim (stands_split c out input w) [
  | inl a ↦ stands_left c out (drop 1 input) a
  | inr b ↦ elim (at_head c input b) [
    | inl e ↦ subst (λ d. Stands d (out ++ drop 1 input)) e
        (Stands-from_occurs (slice_index_or input 0 zero_glyph).cluster (out ++ drop 1 input) twin)
    | inr behind ↦ stands_right c out (drop 1 input) behind
  ]
]

pub keeps_skip_glyph : (s : State) → HasTwin s → KeepsClusters s (step.skip_glyph s)
keeps_skip_glyph s twin =
    let ordered = ordered_skip_glyph s in
    record {
      ordered = ordered;
      least = λ any some. least_stays (both s) (both (step.skip_glyph s)) ordered.numbers
          (λ c low. least_by c (both s) (both (step.skip_glyph s))
          (λ d w. Stands-from_occurs d (both s) (ordered.numbers d (occurs-from_stands d (both (step.skip_glyph s)) w)))
          (λ w. cond_both s.have_output _ _ (λ (l : List hb_glyph_info_t). Stands c (s.out ++ l))
          (λ opened. twin_stands c s.out s.input (twin opened) w) (λ _. w)) low) some;
    }

pub keeps_replace_glyph : (id : ℕ) (s : State) → s.have_output ≡ true → KeepsClusters s (step.replace_glyph id s).state
keeps_replace_glyph id s opened = keeps_by s (step.replace_glyph id s).state
    (cluster_level-put_out (map (with_id id) (take 1 s.input)) s (step.skip_glyph s) refl)
    (λ P steps. rename_keeps P (λ _. ⊤) steps id s opened)

pub keeps_output_glyph : (id : ℕ) (s : State) → KeepsClusters s (step.output_glyph id s).state
keeps_output_glyph id s = keeps_by s (step.output_glyph id s).state
    (cluster_level-put_out (map (with_id id) (glyph_to_copy s)) s s refl)
    (λ P steps. output_keeps P (λ _. ⊤) steps id s)

pub keeps_copy_glyph : (s : State) → KeepsClusters s (step.copy_glyph s).state
keeps_copy_glyph s = keeps_by s (step.copy_glyph s).state (cluster_level-put_out (take 1 s.input) s s refl)
    (λ P steps. copy_keeps P (λ _. ⊤) steps s)

pub keeps_move_to : (place : ℕ) (s : State) → KeepsClusters s (step.move_to place s).state
keeps_move_to place s = keeps_by s (step.move_to place s).state (cluster_level-move_to place s)
    (λ P steps. move_keeps P (λ _. ⊤) steps place s)

-- a limit keeps what both outcomes keep
keeps_limited : (held : ℕ) (s new : State) → KeepsClusters s new → KeepsClusters s (limited held s new).state
keeps_limited held s new kept =
    cond_both (leb held s.max_len) _ _ (λ (o : Outcome). KeepsClusters s o.state)
    (λ _. keeps_then s new (settled new) kept (keeps_alike new (settled new) refl refl))
    (λ _. keeps_alike s (record s { successful = false }) refl refl)

-- a glyph is put beside one of its cluster
beside_kept : (g x : hb_glyph_info_t) (xs ys : List hb_glyph_info_t) (s : State) → both s ≡ xs ++ x ∷ ys
    → clusters ((s.out ++ g ∷ []) ++ s.input) ≡ clusters ((xs ++ x ∷ []) ++ x ∷ ys)
    → KeepsClusters s (record s { out = s.out ++ g ∷ [] })
beside_kept g x xs ys s e same =
    let mid : State = record s { out = xs ++ x ∷ []; input = x ∷ ys } in
    keeps_then s mid (record s { out = s.out ++ g ∷ [] })
    (keeps_by s mid refl (λ P steps h. steps.doubled xs (x ∷ ys) (subst P e h)))
    (keeps_alike mid (record s { out = s.out ++ g ∷ [] }) refl same)

put_clusters : (g : hb_glyph_info_t) (out input : List hb_glyph_info_t)
    → clusters ((out ++ g ∷ []) ++ input) ≡ (clusters out ++ g.cluster ∷ []) ++ clusters input
put_clusters g out input =
    map-append (λ h. h.cluster) (out ++ g ∷ []) input
    ∙ ap (λ cs. cs ++ clusters input) (map-append (λ h. h.cluster) out (g ∷ []))

pub keeps_output_info : (g : hb_glyph_info_t) (s : State) → IsBeside g.cluster s
    → KeepsClusters s (step.output_info g s).state
keeps_output_info g s beside = keeps_limited (length (s.out ++ g ∷ [])) s (record s { out = s.out ++ g ∷ [] })
    (elim beside [
      | inl here ↦
          let x = at s.input 0 in
          let is : s.input ≡ x ∷ drop 1 s.input = drop-cons s.input 0 zero_glyph here.0 in
          beside_kept g x s.out (drop 1 s.input) s (ap (λ l. s.out ++ l) is)
          (put_clusters g s.out s.input ∙ ap (λ c. (clusters s.out ++ c ∷ []) ++ clusters s.input) (sym here.1)
          ∙ sym (put_clusters x s.out s.input) ∙ ap (λ l. clusters ((s.out ++ x ∷ []) ++ l)) is)
      | inr last ↦
          let n = length s.out in
          let x = at s.out (n - 1) in
          let xs = take (n - 1) s.out in
          let k : n - 1 + 1 ≡ n = omega (arith, last.0) in
          let is : s.out ≡ xs ++ x ∷ [] =
          sym (take_all n s.out (omega arith)) ∙ ap (λ i. take i s.out) (sym k)
          ∙ take_more s.out (n - 1) zero_glyph (omega (arith, last.0)) in
          beside_kept g x xs s.input s (ap (λ l. l ++ s.input) is ∙ append_assoc xs (x ∷ []) s.input)
          (put_clusters g s.out s.input ∙ ap (λ c. (clusters s.out ++ c ∷ []) ++ clusters s.input) (sym last.1)
          ∙ sym (put_clusters x s.out s.input) ∙ ap (λ l. clusters ((l ++ x ∷ []) ++ s.input)) is
          ∙ ap clusters (append_assoc (xs ++ x ∷ []) (x ∷ []) s.input))
    ])

-- what is left to read while an output is open
pub left_some : (s : State) → s.have_output ≡ true → 0 < lookahead_len s → 0 < length s.input
left_some s opened some = front_left s.have_output s.idx (length s.input) 1 opened some

pub left_within : (n : ℕ) (s : State) → s.have_output ≡ true → n ≤ lookahead_len s → n ≤ length s.input
left_within n s opened within = front_left s.have_output s.idx (length s.input) n opened within

-- ---- replacement and deletion

cluster_level-replace_glyphs : (n : ℕ) (ids : List ℕ) (s : State)
    → (step.replace_glyphs n ids s).state.cluster_level ≡ s.cluster_level
cluster_level-replace_glyphs n ids s =
    let m = cluster_step.merge_clusters s.idx (s.idx + n) s in
    cluster_level-put_out (copies (head_of m) ids) s (skip_glyphs n m) refl

pub ordered_replace_glyphs : (n : ℕ) (ids : List ℕ) (s : State) → s.have_output ≡ true → 0 < length s.input
    → n ≤ length s.input → KeepsClusterOrder s (step.replace_glyphs n ids s).state
ordered_replace_glyphs n ids s opened some within = ordered_by s (step.replace_glyphs n ids s).state
    (cluster_level-replace_glyphs n ids s) (λ P steps. replace_keeps P (λ _. ⊤) steps n ids s opened some within)

replaced_least : (any : Bool) (l : List hb_glyph_info_t) (p q : ℕ) (ids : List ℕ) → any ≡ false → p ≤ q → q ≤ length l
    → p < length l → 0 < length ids
    → least (clusters (replacement any l p q ids)) ≡ least (clusters l)
replaced_least true l p q ids e up in_l here some = cc
replaced_least false l p q ids e up in_l here some = least-replacement l p q ids up in_l here some

pub keeps_replace_glyphs : (n : ℕ) (ids : List ℕ) (s : State) → s.have_output ≡ true → 0 < length s.input
    → n ≤ length s.input → 0 < length ids → KeepsClusters s (step.replace_glyphs n ids s).state
keeps_replace_glyphs n ids s opened some within with_some = record {
  ordered = ordered_replace_glyphs n ids s opened some within;
  least = λ any left.
      let P : List hb_glyph_info_t → Type 0 = λ l. least (clusters l) ≡ least (clusters (both s)) in
      let size = length-append s.out s.input in
      subst P (ap (λ (o : Outcome). both o.state) (sym (replace_glyphs-sides n ids s opened)))
      (cond_both (leb (length s.out + length ids) s.max_len) _ _ (λ (o : Outcome). P (both o.state))
      (λ _. subst P (sym (replaced_both n ids s))
      (replaced_least (any_order s) (both s) (length s.out) (length s.out + n) ids any (omega arith) (omega arith)
      (omega arith) with_some))
      (λ _. refl));
}

deleted_least : (any : Bool) (out input : List hb_glyph_info_t) → any ≡ false → 0 < length input
    → let d = deletion any out (slice_index_or input 0 zero_glyph) (drop 1 input) in 0 < length (d.out ++ d.rest)
    → least (clusters (d.out ++ d.rest)) ≡ least (clusters (out ++ input))
deleted_least true out input e some left = cc
deleted_least false out [] e some left = absurd (omega arith)
deleted_least false out (x ∷ rest) e some left =
    let n = length-deletion false out x rest in
    let d = deletion false out x rest in
    least-deletion out x rest (omega (arith, left, n.0, n.1, length-append d.out d.rest, length-append out rest))

pub keeps_delete_glyph : (s : State) → 0 < length s.input → KeepsClusters s (cluster_step.delete_glyph s)
keeps_delete_glyph s some = record {
  ordered = ordered_by s (cluster_step.delete_glyph s) refl
      (λ P steps. delete_keeps P (λ _. ⊤) steps (any_order s) s.out s.input some);
  least = λ any left. deleted_least (any_order s) s.out s.input any some left;
}

-- ---- merges and glyph flags

pub keeps_merge_input : (any : Bool) (start end : ℕ) (s : State) → end ≤ len s
    → KeepsClusters s (merge_input any start end s)
keeps_merge_input any start end s in_len = keeps_by s (merge_input any start end s) refl
    (λ P steps. merge_keeps P (λ _. ⊤) steps any start end s in_len tt)

pub keeps_merge_clusters : (start end : ℕ) (s : State) → end ≤ len s
    → KeepsClusters s (cluster_step.merge_clusters start end s)
keeps_merge_clusters start end s in_len = keeps_merge_input (any_order s) start end s in_len

pub keeps_merge_out_clusters : (start end : ℕ) (s : State) → end ≤ length s.out
    → KeepsClusters s (cluster_step.merge_out_clusters start end s)
keeps_merge_out_clusters start end s in_out = keeps_by s (cluster_step.merge_out_clusters start end s) refl
    (λ P steps. merge_out_keeps P (λ _. ⊤) steps start end s in_out)

keeps_scan : (bits : ℕ) → BreakImpliesConcat bits → (start end : ℕ) (s : State) → start ≤ end
    → KeepsClusters s (plain_scan (any_order s) bits start end s)
keeps_scan bits safe start end s up = keeps_by s (plain_scan (any_order s) bits start end s)
    (cluster_level-plain_scan (any_order s) bits start end s)
    (λ P steps h. plain_scan_keeps P (λ _. ⊤) steps bits safe s h start end up)

pub keeps_merge_grapheme_clusters : (start end : ℕ) (s : State) → start ≤ end → end ≤ len s
    → KeepsClusters s (cluster_step.merge_grapheme_clusters start end s)
keeps_merge_grapheme_clusters start end s up in_len =
    cond_both (groups_graphemes s.cluster_level) _ _ (KeepsClusters s)
    (λ _. keeps_by s _ refl (λ P steps. merge_keeps P (λ _. ⊤) steps false start end s in_len tt))
    (λ _. keeps_scan BREAK_BITS three_agrees start (range_end (Some end) s) s
    (omega (arith, range_end-some end s in_len)))

pub keeps_unsafe_to_break : (start end : Option ℕ) (s : State) → range_start start ≤ range_end end s
    → KeepsClusters s (cluster_step.unsafe_to_break start end s)
keeps_unsafe_to_break start end s up = keeps_scan BREAK_BITS three_agrees (range_start start) (range_end end s) s up

pub keeps_safe_to_insert_tatweel : (start end : Option ℕ) (s : State) → range_start start ≤ range_end end s
    → KeepsClusters s (cluster_step.safe_to_insert_tatweel start end s)
keeps_safe_to_insert_tatweel start end s up =
    let wanted = asks PRODUCE_SAFE_TO_INSERT_TATWEEL s in
    keeps_scan (cond wanted SAFE_TO_INSERT_TATWEEL BREAK_BITS)
    (cond_both wanted _ _ BreakImpliesConcat (λ _. four_agrees) (λ _. three_agrees)) (range_start start)
    (range_end end s) s up

-- from a place of the out side, or of the input where no output is open, to a place of the input
sides_up : (start end : ℕ) (s : State) → (s.have_output ≡ false → start ≤ end)
    → (s.have_output ≡ true → start ≤ length s.out) → start ≤ both_place s end
sides_up start end s closed opened =
    cond_both s.have_output s.idx 0 (λ (from : ℕ). start ≤ length s.out + (end - from))
    (λ e. let h = opened e in omega arith) (λ e. let h = closed e in omega arith)

pub keeps_unsafe_to_break_from_outbuffer : (start end : Option ℕ) (s : State)
    → (s.have_output ≡ false → range_start start ≤ range_end end s)
    → (s.have_output ≡ true → range_start start ≤ length s.out)
    → KeepsClusters s (cluster_step.unsafe_to_break_from_outbuffer start end s)
keeps_unsafe_to_break_from_outbuffer start end s closed opened =
    keeps_by s (cluster_step.unsafe_to_break_from_outbuffer start end s) refl
    (λ P steps h. scan_sides_keeps P (λ _. ⊤) steps BREAK_BITS three_agrees s h (range_start start)
    (both_place s (range_end end s)) (sides_up (range_start start) (range_end end s) s closed opened))

keeps_flags : (p q : ℕ) (s : State) → p ≤ q
    → KeepsClusters s (cond (asks PRODUCE_UNSAFE_TO_CONCAT s) (flag_all UNSAFE_TO_CONCAT p q s) s)
keeps_flags p q s up = cond_both (asks PRODUCE_UNSAFE_TO_CONCAT s) _ _ (KeepsClusters s)
    (λ _. keeps_by s (flag_all UNSAFE_TO_CONCAT p q s) refl
    (λ P steps h. flag_all_keeps P (λ _. ⊤) steps UNSAFE_TO_CONCAT two_agrees s h p q up))
    (λ _. keeps_none s)

pub keeps_unsafe_to_concat : (start end : Option ℕ) (s : State) → range_start start ≤ range_end end s
    → KeepsClusters s (cluster_step.unsafe_to_concat start end s)
keeps_unsafe_to_concat start end s up =
    keeps_flags (both_place s (range_start start)) (both_place s (range_end end s)) s (omega arith)

pub keeps_unsafe_to_concat_from_outbuffer : (start end : Option ℕ) (s : State)
    → (s.have_output ≡ false → range_start start ≤ range_end end s)
    → (s.have_output ≡ true → range_start start ≤ length s.out)
    → KeepsClusters s (cluster_step.unsafe_to_concat_from_outbuffer start end s)
keeps_unsafe_to_concat_from_outbuffer start end s closed opened =
    keeps_flags (range_start start) (both_place s (range_end end s)) s
    (sides_up (range_start start) (range_end end s) s closed opened)

-- ---- the same of what a call leaves

-- another name for what it leaves
pub kept_as : (s u t : State) → KeepsClusters s u → t ≡ u → KeepsClusters s t
kept_as s u t kept e = subst (KeepsClusters s) (sym e) kept

pub turned_as : (s u t : State) → TurnsClusters s u → t ≡ u → TurnsClusters s t
turned_as s u t turned e = subst (TurnsClusters s) (sym e) turned

pub ordered_as : (s u t : State) → KeepsClusterOrder s u → t ≡ u → KeepsClusterOrder s t
ordered_as s u t kept e = subst (KeepsClusterOrder s) (sym e) kept

module _ (s : State) (r : Result Bool AllocError) (t : State) where
  pub kept_next : (n : ℕ) → Meets (next_glyphs n s) s r t → KeepsClusters s t
  kept_next n m = keeps_answer _ (next_glyphs n s) s (keeps_next_glyphs n s) r t m

  pub kept_replaced : (id : ℕ) → s.have_output ≡ true → Meets (step.replace_glyph id s) s r t → KeepsClusters s t
  kept_replaced id opened m = keeps_answer _ (step.replace_glyph id s) s (keeps_replace_glyph id s opened) r t m

  pub kept_output : (id : ℕ) → Meets (step.output_glyph id s) s r t → KeepsClusters s t
  kept_output id m = keeps_answer _ (step.output_glyph id s) s (keeps_output_glyph id s) r t m

  pub kept_copied : Meets (step.copy_glyph s) s r t → KeepsClusters s t
  kept_copied m = keeps_answer _ (step.copy_glyph s) s (keeps_copy_glyph s) r t m

  pub kept_info : (g : hb_glyph_info_t) → IsBeside g.cluster s → Meets (step.output_info g s) s r t → KeepsClusters s t
  kept_info g beside m = keeps_answer _ (step.output_info g s) s (keeps_output_info g s beside) r t m

  pub kept_moved : (place : ℕ) → Meets (step.move_to place s) s r t → KeepsClusters s t
  kept_moved place m = keeps_answer _ (step.move_to place s) s (keeps_move_to place s) r t m

  module _ (n : ℕ) (ids : List ℕ) (opened : s.have_output ≡ true) (some : 0 < length s.input)
      (within : n ≤ length s.input) (m : Meets (step.replace_glyphs n ids s) s r t) where
    pub ordered_replacement : KeepsClusterOrder s t
    ordered_replacement = ordered_answer _ (step.replace_glyphs n ids s) s
        (ordered_replace_glyphs n ids s opened some within) r t m

    pub kept_replacement : 0 < length ids → KeepsClusters s t
    kept_replacement with_some = keeps_answer _ (step.replace_glyphs n ids s) s
        (keeps_replace_glyphs n ids s opened some within with_some) r t m
