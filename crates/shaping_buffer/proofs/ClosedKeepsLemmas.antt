-- What calls keep of the clusters that no output is open at: writes, masks, reversals and deletion in place.
use Rattle.std.proofs.Common.{◌≡◌, ℕ, zero, suc, ◌-◌, ◌<◌, ◌≤◌, Bool, true, false, cond, List, []}
use Rattle.std.proofs.Common.{◌++◌, length, reverse, take, drop, refl, sym, ap, ◌∙◌, subst, arith}
use Rattle.std.proofs.Common.{append_assoc, eqb, length-drop}
use Rattle.std.proofs.lemmas.Bool.{cond_both}
use Rattle.std.proofs.lemmas.List.{take-append-drop, get_or-reverse, length-reverse, map-append}
use Rattle.std.proofs.lemmas.List.{drop_all, take_all, append-nil}
use Rattle.std.proofs.Math.Seq.{map-set_same}
use Rattle.std.specs.Prelude.{not, slice_index, slice_index_or, slice_set}
use Rattle.glyph_sides.specs.LendingLists.{refilled}
use Rattle.shaping_buffer.specs.Lending.{with_input, with_out, with_cur, with_prev}
use Rattle.rb_glyph.specs.declared.info.hb_glyph_info_t.{hb_glyph_info_t}
use Rattle.glyph_lists.specs.Clusters.{clusters, occurs, NeverFalls, NeverRises, zero_glyph}
use Rattle.glyph_lists.specs.KeptClusters.{BringsNoCluster, KeepsLeast, Runs}
use Rattle.glyph_lists.specs.Deletion.{OutAndRest}
use Rattle.glyph_lists.specs.DeletingWalk.{head_of, after_turn, after_walk}
use Rattle.glyph_lists.specs.Masks as masks
use Rattle.glyph_lists.specs.Masks.{with_bits, with_mask, in_clusters}
use Rattle.glyph_lists.proofs.PartsLemmas.{map-map_same}
use Rattle.glyph_lists.proofs.LengthsLemmas.{length-deletion}
use Rattle.glyph_lists.proofs.ClustersLemmas.{get_or-clusters, length-clusters}
use Rattle.glyph_laws.proofs.NumbersLemmas.{Stands, Stands-from_occurs, occurs-from_stands}
use Rattle.glyph_laws.proofs.ReadingsLemmas.{at}
use Rattle.shaping_buffer.specs.State.{State, place_of}
use Rattle.shaping_buffer.specs.ClusterStep as cluster_step
use Rattle.shaping_buffer.specs.ClusterStep.{both, any_order, delete_glyph}
use Rattle.shaping_buffer.specs.GroupStep as group_step
use Rattle.shaping_buffer.specs.KeepsClusters.{KeepsClusters, TurnsClusters}
use Rattle.shaping_buffer.proofs.KeepsLemmas.{keeps_none, keeps_then, keeps_alike, keeps_delete_glyph}
use Rattle.shaping_buffer.proofs.LeastSteps.{least_by, least_stays}

-- ---- writes

clusters-append : (a b l m : List hb_glyph_info_t) → clusters b ≡ clusters a → clusters m ≡ clusters l
    → clusters (b ++ m) ≡ clusters (a ++ l)
clusters-append a b l m p q =
    map-append (λ g. g.cluster) b m ∙ ap (λ x. x ++ clusters m) p ∙ ap (λ x. clusters a ++ x) q
    ∙ sym (map-append (λ g. g.cluster) a l)

-- the clusters of each side are the same
pub keeps_sides : (s t : State) → t.cluster_level ≡ s.cluster_level → clusters t.out ≡ clusters s.out
    → clusters t.input ≡ clusters s.input → KeepsClusters s t
keeps_sides s t level same_out same_input =
    keeps_alike s t level (clusters-append s.out t.out s.input t.input same_out same_input)

-- what is written over a whole list
refilled_same : (xs ws : List hb_glyph_info_t) → length ws ≡ length xs → refilled xs ws ≡ ws
refilled_same xs ws same =
    ap (λ (z : List hb_glyph_info_t). take (length xs) (ws ++ z)) (drop_all (length ws) xs (omega arith))
    ∙ ap (take (length xs)) (append-nil ws) ∙ take_all (length xs) ws (omega arith)

-- in the same clusters
pub clusters_refilled : (xs ws : List hb_glyph_info_t) → clusters ws ≡ clusters xs
    → clusters (refilled xs ws) ≡ clusters xs
clusters_refilled xs ws e =
    let n : length ws ≡ length xs = sym (length-clusters ws) ∙ ap length e ∙ length-clusters xs in
    ap clusters (refilled_same xs ws n) ∙ e

-- one glyph is written anew
pub clusters_written : (l : List hb_glyph_info_t) (k : ℕ) (g d : hb_glyph_info_t)
    → g.cluster ≡ (slice_index_or l k d).cluster → clusters (slice_set l k g) ≡ clusters l
clusters_written l k g d same = map-set_same (λ x. x.cluster) l k g d same

-- through the references that a buffer hands out
pub keeps_with_input : (s : State) (gs now : List hb_glyph_info_t) → now ≡ s.input → clusters gs ≡ clusters now
    → KeepsClusters s (with_input s gs)
keeps_with_input s gs now was e =
    keeps_sides s (with_input s gs) refl refl (clusters_refilled s.input gs (e ∙ ap clusters was))

pub keeps_with_out : (s : State) (gs now : List hb_glyph_info_t) → now ≡ s.out → clusters gs ≡ clusters now
    → KeepsClusters s (with_out s gs)
keeps_with_out s gs now was e =
    keeps_sides s (with_out s gs) refl (clusters_refilled s.out gs (e ∙ ap clusters was)) refl

pub keeps_with_cur : (s : State) (k : ℕ) (g d : hb_glyph_info_t)
    → g.cluster ≡ (slice_index_or s.input (place_of s k) d).cluster → KeepsClusters s (with_cur s k g)
keeps_with_cur s k g d same =
    keeps_sides s (with_cur s k g) refl refl (clusters_written s.input (place_of s k) g d same)

pub keeps_with_prev : (s : State) (g d : hb_glyph_info_t)
    → g.cluster ≡ (slice_index_or s.out (length s.out - 1) d).cluster → KeepsClusters s (with_prev s g)
keeps_with_prev s g d same =
    keeps_sides s (with_prev s g) refl (clusters_written s.out (length s.out - 1) g d same) refl

-- ---- masks

clusters-reset_masks : (mask : ℕ) (l : List hb_glyph_info_t) → clusters (masks.reset_masks mask l) ≡ clusters l
unfolding masks.reset_masks with_mask
clusters-reset_masks mask l = map-map_same (λ g. g.cluster) (with_mask mask) (λ g. refl) l

pub keeps_reset_masks : (mask : ℕ) (s : State) → KeepsClusters s (cluster_step.reset_masks mask s)
keeps_reset_masks mask s =
    keeps_sides s (cluster_step.reset_masks mask s) refl refl (clusters-reset_masks mask s.input)

clusters-set_masks : (value mask start end : ℕ) (l : List hb_glyph_info_t)
    → clusters (masks.set_masks value mask start end l) ≡ clusters l
unfolding masks.set_masks with_bits
clusters-set_masks value mask start end l =
    cond_both (eqb mask 0) _ _ (λ (m : List hb_glyph_info_t). clusters m ≡ clusters l) (λ _. refl)
    (λ _. map-map_same (λ g. g.cluster) (λ g. cond (in_clusters start end g.cluster) (with_bits value mask g) g)
    (λ g. cond_both (in_clusters start end g.cluster) _ _ (λ (x : hb_glyph_info_t). x.cluster ≡ g.cluster) (λ _. refl)
    (λ _. refl)) l)

pub keeps_set_masks : (value mask start end : ℕ) (s : State)
    → KeepsClusters s (cluster_step.set_masks value mask start end s)
keeps_set_masks value mask start end s =
    keeps_sides s (cluster_step.set_masks value mask start end s) refl refl
    (clusters-set_masks value mask start end s.input)

-- ---- reversal: rising becomes falling

slice_index-reverse : (l : List hb_glyph_info_t) (k : ℕ) → k < length l
    → slice_index (clusters (reverse l)) k ≡ slice_index (clusters l) (length l - 1 - k)
slice_index-reverse l k h =
    get_or-clusters (reverse l) k zero_glyph (omega (arith, length-reverse l))
    ∙ ap (λ g. g.cluster) (get_or-reverse l k zero_glyph h)
    ∙ sym (get_or-clusters l (length l - 1 - k) zero_glyph (omega arith))

rising-reverse : (l : List hb_glyph_info_t) → NeverFalls (clusters l) → NeverRises (clusters (reverse l))
rising-reverse l rises i j up in_r =
    let n = length-clusters (reverse l) in
    let m = length-reverse l in
    let k = length-clusters l in
    let le = rises (length l - 1 - j) (length l - 1 - i) (omega arith) (omega arith) in
    omega (arith, le, slice_index-reverse l i (omega arith), slice_index-reverse l j (omega arith))

falling-reverse : (l : List hb_glyph_info_t) → NeverRises (clusters l) → NeverFalls (clusters (reverse l))
falling-reverse l falls i j up in_r =
    let n = length-clusters (reverse l) in
    let m = length-reverse l in
    let k = length-clusters l in
    let le = falls (length l - 1 - j) (length l - 1 - i) (omega arith) (omega arith) in
    omega (arith, le, slice_index-reverse l i (omega arith), slice_index-reverse l j (omega arith))

running-reverse : (up : Bool) (l : List hb_glyph_info_t) → Runs up (clusters l) → Runs (not up) (clusters (reverse l))
running-reverse true = rising-reverse
running-reverse false = falling-reverse

pub stands-reverse : (c : ℕ) (l : List hb_glyph_info_t) → Stands c (reverse l) → Stands c l
stands-reverse c l w =
    let m = length-reverse l in (
      length l - 1 - w.0,
      omega (arith, w.1),
      ap (λ g. g.cluster) (sym (get_or-reverse l w.0 zero_glyph (omega (arith, w.1)))) ∙ w.2,
    )

pub stands-in_reverse : (c : ℕ) (l : List hb_glyph_info_t) → Stands c l → Stands c (reverse l)
stands-in_reverse c l w =
    let m = length-reverse l in
    let k : length l - 1 - (length l - 1 - w.0) ≡ w.0 = omega (arith, w.1) in (
      length l - 1 - w.0,
      omega (arith, w.1),
      ap (λ g. g.cluster) (get_or-reverse l (length l - 1 - w.0) zero_glyph (omega (arith, w.1)))
          ∙ ap (λ i. (at l i).cluster) k ∙ w.2,
    )

closed_both : (s : State) → s.out ≡ [] → both s ≡ s.input
closed_both s e = ap (λ l. l ++ s.input) e

-- no output is open, and the list gives way to another of the same numbers
module _ (s t : State) (e : s.out ≡ []) (e2 : t.out ≡ []) (back : (c : ℕ) → Stands c t.input → Stands c s.input)
    (on : any_order s ≡ false → (c : ℕ) → Stands c s.input → Stands c t.input) where
  pub list_numbers : BringsNoCluster (both s) (both t)
  list_numbers c in_t = subst (λ l. occurs c (clusters l) ≡ true) (sym (closed_both s e))
      (occurs-from_stands c s.input (back c
      (Stands-from_occurs c t.input (subst (λ l. occurs c (clusters l) ≡ true) (closed_both t e2) in_t))))

  pub list_least : KeepsLeast (any_order s) (both s) (both t)
  list_least any some = least_stays (both s) (both t) list_numbers
      (λ c low. least_by c (both s) (both t)
      (λ d w. subst (Stands d) (sym (closed_both s e)) (back d (subst (Stands d) (closed_both t e2) w)))
      (λ w. subst (Stands c) (sym (closed_both t e2)) (on any c (subst (Stands c) (closed_both s e) w))) low) some

-- such a list that is turned
pub turns_reverse : (s : State) → s.out ≡ [] → TurnsClusters s (group_step.reverse s)
turns_reverse s e =
    let t = group_step.reverse s in
    let back : (c : ℕ) → Stands c t.input → Stands c s.input = λ c. stands-reverse c s.input in
    let is = closed_both s e in
    let is2 = closed_both t e in
    record {
      level = refl;
      order = λ any up h. subst (λ l. Runs (not up) (clusters l)) (sym is2)
          (running-reverse up s.input (subst (λ l. Runs up (clusters l)) is h));
      numbers = list_numbers s t e e back (λ any c. stands-in_reverse c s.input);
      least = list_least s t e e back (λ any c. stands-in_reverse c s.input);
    }

-- and one of the same clusters at the monotone levels
pub keeps_list : (s t : State) → s.out ≡ [] → t.out ≡ [] → t.cluster_level ≡ s.cluster_level
    → (any_order s ≡ false → clusters t.input ≡ clusters s.input)
    → ((c : ℕ) → Stands c t.input → Stands c s.input)
    → (any_order s ≡ false → (c : ℕ) → Stands c s.input → Stands c t.input)
    → KeepsClusters s t
keeps_list s t e e2 level alike back on =
    let same : any_order s ≡ false → clusters (both t) ≡ clusters (both s) = λ any.
    ap clusters (closed_both t e2) ∙ alike any ∙ sym (ap clusters (closed_both s e)) in
    record {
      ordered = record {
        level = level;
        order = λ any up. subst (Runs up) (sym (same any));
        numbers = list_numbers s t e e2 back on;
      };
      least = list_least s t e e2 back on;
    }

-- ---- deletion in place

module _ (test : hb_glyph_info_t → Bool) (s : State) where
  -- the two sides of the walk, as a buffer's
  abbrev at_sides : OutAndRest → State
  at_sides d = record s { have_output = true; out = d.out; input = d.rest; idx = 0 }

  abbrev turn : OutAndRest → OutAndRest
  turn d = after_turn (any_order s) test d

  turn_keeps : (d : OutAndRest) → 0 < length d.rest → KeepsClusters (at_sides d) (at_sides (turn d))
  turn_keeps d some =
      cond_both (test (head_of d)) _ _ (λ (e : OutAndRest). KeepsClusters (at_sides d) (at_sides e))
      (λ _. keeps_then _ (delete_glyph (at_sides d)) _ (keeps_delete_glyph (at_sides d) some)
      (keeps_alike _ _ refl refl))
      (λ _. keeps_alike _ _ refl (ap clusters (append_assoc d.out (take 1 d.rest) (drop 1 d.rest)
      ∙ ap (λ l. d.out ++ l) (take-append-drop 1 d.rest))))

  turn_left : (d : OutAndRest) (n : ℕ) → suc n ≤ length d.rest → n ≤ length (turn d).rest
  turn_left d n h =
      cond_both (test (head_of d)) _ _ (λ (e : OutAndRest). n ≤ length e.rest)
      (λ _. omega (arith, (length-deletion (any_order s) d.out (head_of d) (drop 1 d.rest)).1, length-drop 1 d.rest))
      (λ _. omega (arith, length-drop 1 d.rest))

  walk_keeps : (n : ℕ) (d : OutAndRest) → n ≤ length d.rest
      → KeepsClusters (at_sides d) (at_sides (after_walk (any_order s) test n d))
  walk_keeps zero d h = keeps_none (at_sides d)
  walk_keeps (suc n) d h =
      keeps_then _ _ _ (turn_keeps d (omega arith)) (walk_keeps n (turn d) (turn_left d n h))

  pub keeps_delete_glyphs_inplace : s.out ≡ [] → KeepsClusters s (group_step.delete_glyphs_inplace test s)
  keeps_delete_glyphs_inplace e =
      let start : OutAndRest = record { out = []; rest = s.input } in
      let end = after_walk (any_order s) test (length s.input) start in
      keeps_then _ (at_sides start) _ (keeps_alike _ _ refl (ap clusters (sym (closed_both s e))))
      (keeps_then _ (at_sides end) _ (walk_keeps (length s.input) start (omega arith))
      (keeps_alike _ _ refl (ap clusters (closed_both (group_step.delete_glyphs_inplace test s) e))))

-- what search closes by
pub ruleset kept = (keeps_then, keeps_none, keeps_sides, clusters_refilled, clusters_written)
